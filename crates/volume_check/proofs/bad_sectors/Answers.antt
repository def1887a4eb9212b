use Prim.Native.Nat.{◌≤◌}
use mathlib.Core.Bool.{Bool, true, false}
use mathlib.Core.Path.{◌≡◌, refl, ap, ◌∙◌}
use native.Mathlib.Numerals.{add-one}
use native.Mathlib.Omega.{arith}
use mir.Val.{bool_byte}
use Rattle.std.proofs.lemmas.List.{take_more_set}
use Rattle.octets.specs.Choice.{pick}
use Rattle.volume_check.specs.Check.{is_bad}
use Rattle.volume_check.proofs.bad_sectors.Goals as goal

byte : (b : Bool) → bool_byte b ≡ pick b 1 0
byte true = refl
byte false = refl

one : (b : Bool) → bool_byte b ≤ 1
one true = omega arith
one false = omega arith

pub overflow_add-count : goal.overflow_add-count
overflow_add-count c = omega (arith, one c.is_bad.result, c.from-bad.ensures, c.from-count.ensures)

pub loop-i-preserved : goal.loop-i-preserved
loop-i-preserved c =
    let bad = is_bad c.args.s c.args.v.now c.args.st.now in
    let turn = c.loop-i in
    let more : c.from-bad.result ≡ pick (bad turn.i) 1 0 = c.from-bad.ensures ∙ byte c.is_bad.result ∙ ap (λ (b : Bool). pick b 1 0) c.is_bad.ensures in (
      take_more_set turn.flags turn.i c.from-bad.result (omega arith) ∙ rw (add-one, turn.invariant.0, more) refl,
      rw (add-one, turn.invariant.1, c.from-count.ensures, more) refl,
      omega (arith, one c.is_bad.result, c.from-bad.ensures, c.from-count.ensures),
    )

use Prim.Native.Nat.{ℕ, ◌*◌}
use mathlib.Core.Path.{◌∙◌, ap, ◌≡◌}
use native.Mathlib.Omega.{arith}
use Rattle.octets.specs.Parts.{patch}
use Rattle.octets.specs.Numbers.{le}
use Rattle.on_disk.specs.Section.{unused}
use Rattle.on_disk.specs.Layout.{entry_size}
use Rattle.section.proofs.Clearing.{mark-room, mark, all-marked}
use Rattle.section.proofs.empty_metadata.Goals as goal

pub loop-i-preserved : goal.loop-i-preserved
loop-i-preserved c =
    let turn = c.loop-i in
    let at : turn.i * c.entry_size-entry.result ≡ turn.i * entry_size c.args.t = ap (λ (n : ℕ). turn.i * n) c.entry_size-entry.ensures.0 in
    let room = mark-room c.args.t turn.i (omega arith) in
    let next = mark c.args.t turn.i turn.sector _ (omega arith) turn.invariant.0 (c.put_number.ensures ∙ ap (λ (n : ℕ). patch turn.sector n (le 8 unused)) at) in
    (next, c.put_number.auto.s ∙ turn.invariant.1)

pub returns : goal.returns
returns c = (all-marked c.args.t c.loop-i.i c.loop-i.sector (omega arith) c.loop-i.invariant.0, c.loop-i.invariant.1)

use Prim.Native.Nat.{◌+◌}
use native.Mathlib.Omega.{arith}
use mathlib.Core.List.{[], ◌∷◌, ◌++◌}
use mathlib.Core.Path.{◌≡◌, refl, ◌∙◌}
use lib.ListN.{length, length-append}
use borrow.Author.Rules.{rules}
use Rattle.std.specs.Prelude.{option_copied}
use Rattle.drill.specs.Script.{event_by, event_at}
use Rattle.drill.proofs.Scripts.{rest-turn, is-event}
use Rattle.drill.proofs.Worlds.{begins, event-played}
use Rattle.drill.proofs.events.Goals as goal

pub loop-bytes-init : goal.loop-bytes-init
loop-bytes-init c =
    let a = c.args in
    record {
      size = search rules;
      rest = search rules;
      loan = refl;
      ran = begins (option_copied a.x.key) a.x.reserved a.v.now a.st.now _ c.at_rest-last.ensures;
    }

pub loop-bytes-preserved : goal.loop-bytes-preserved
loop-bytes-preserved c =
    let a = c.args in
    let turn = c.loop-bytes in
    let before = turn.invariant in
    let block = c.in-Some.bytes in
    let step = c.in-Some.ensures.steps in
    let i = length turn.yielded in
    let n = length a.st.now in
    let made = c.decode in
    let size : length block.now ≡ 4 = step.1.1 ∙ before.size in
    let more : length (turn.yielded ++ block ∷ []) ≡ i + 1 = length-append turn.yielded (block ∷ []) in
    let is : event_by (length turn.st) made.result.kind made.result.sector made.result.fill ≡ event_at n a.script.now i =
    (λ j. event_by (before.loan j) (made.ensures j).kind (made.ensures j).sector (made.ensures j).fill)
    ∙ is-event i a.script.now _ block.now _ before.rest step.1.0 size n in
    record {
      size = step.0 ∙ before.size;
      rest = rw more (rest-turn i a.script.now _ block.now _ before.rest step.1.0 size);
      loan = omega (arith, c.next-last.auto.st, before.loan);
      ran = rw more (event-played (option_copied a.x.key) a.x.reserved a.v.now a.st.now n i a.script.now turn.v turn.st _ _ turn.last c.next-last.result before.ran _ c.next-last.ensures is);
    }

use mathlib.Core.Path.{refl, sym, ◌∙◌, ◌≡◌}
use native.Mathlib.Omega.{arith}
use lib.Seq.{take_all}
use lib.ListN.{length-set}
use borrow.Author.Rules.{rules}
use Rattle.c_numbers.specs.Numbers.{numbers_in}
use Rattle.c_digest.proofs.DigestStates.{read-turn}
use Rattle.c_digest.proofs.state.read_words.Goals as goal

pub loop-i-init : goal.loop-i-init
unfolding numbers_in
loop-i-init c = (refl, refl)

pub loop-i-preserved : goal.loop-i-preserved
loop-i-preserved c =
    let turn = c.loop-i in (
      simp length-set (search rules),
      read-turn c.args.buffer.now turn.word-items turn.i c.number.result (omega arith) turn.invariant.1 c.number.ensures.0,
    )

pub returns : goal.returns
returns c =
    let turn = c.loop-i in
    let e : turn.i ≡ 8 = omega arith in
    sym (take_all 8 turn.word-items (omega arith)) ∙ (rw e at turn.invariant.1)

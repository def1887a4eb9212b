use Prim.Native.Nat.{◌+◌}
use mathlib.Core.Path.{sym, ◌∙◌}
use native.Mathlib.Omega.{arith}
use borrow.Author.Tests.{lt-ltb, le-ltb}
use Rattle.model.proofs.States.{state-layout, volume-room}
use Rattle.model.specs.Verify.{verify_of}
use Rattle.volume_verify.proofs.Verifying.{state-ok, volume-ok}
use Rattle.volume_verify.proofs.verify.verify_by.Goals as goal

pub returns-then-not-is_filling : goal.returns-then-not-is_filling
unfolding verify_of
returns-then-not-is_filling c = rw (c.requires, sym c.is_filling.ensures ∙ c.if-not-is_filling.true)

pub returns-then-g-count : goal.returns-then-g-count
unfolding verify_of
returns-then-g-count c = rw (c.requires, sym c.is_filling.ensures ∙ c.if-not-is_filling.false, lt-ltb c.args.s.layout.provided (c.args.first + c.args.count) (omega (arith, c.if-g-count.true)))

pub returns-then-g-count-2 : goal.returns-then-g-count-2
unfolding verify_of
returns-then-g-count-2 c = rw (c.requires, sym c.is_filling.ensures ∙ c.if-not-is_filling.false, lt-ltb c.args.s.layout.provided (c.args.first + c.args.count) (omega (arith, c.if-g-count.false, c.if-g-count-2.true)))

pub verify_tags-requires : goal.verify_tags-requires
verify_tags-requires c =
    let a = c.args in
    (state-layout a.s (state-ok a.s a.v.now c.requires), volume-room a.s a.v.now (volume-ok a.s a.v.now c.requires), omega (arith, c.if-g-count.false, c.if-g-count-2.false))

pub returns : goal.returns
unfolding verify_of
returns c = c.verify_tags.ensures ∙ rw (c.requires, sym c.is_filling.ensures ∙ c.if-not-is_filling.false, le-ltb c.args.s.layout.provided (c.args.first + c.args.count) (omega (arith, c.if-g-count.false, c.if-g-count-2.false)))

use native.Mathlib.Omega.{arith}
use Rattle.tree_path.proofs.PlaceLaws.{blocks-few, blocks-start, blocks-turn, blocks_end}
use Rattle.tree_path.proofs.places.hash_blocks.Goals as goal

pub loop-init : goal.loop-init
loop-init c = (omega arith, blocks-start c.args.h c.args.m)

pub overflow_add-all : goal.overflow_add-all
overflow_add-all c =
    let a = c.args in
    omega (arith, blocks-few a.h a.m (omega arith) (omega arith))

pub loop-preserved : goal.loop-preserved
loop-preserved c =
    let turn = c.loop in
    (omega arith, blocks-turn c.args.h turn.counter turn.below _ turn.all _ c.loop-test.true c.parents-below.ensures.0 turn.invariant.1)

pub returns : goal.returns
returns c =
    let a = c.args in
    let e = blocks_end a.h c.loop.counter c.loop.below _ _ (omega arith) c.loop.invariant.1 in
    (e, omega (arith, blocks-few a.h a.m (omega arith) (omega arith)))

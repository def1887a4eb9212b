use native.Mathlib.Omega.{arith}
use Rattle.tree_path.proofs.PlaceLaws.{levels-few, levels-start, levels-turn, levels-end}
use Rattle.tree_path.proofs.places.levels.Goals as goal

pub loop-m-init : goal.loop-m-init
loop-m-init c = (omega arith, levels-start c.args.n)

pub overflow_add-h : goal.overflow_add-h
overflow_add-h c =
    let n = c.args.n in
    omega (arith, levels-few n (omega arith))

pub loop-m-preserved : goal.loop-m-preserved
loop-m-preserved c =
    let turn = c.loop-m in
    (omega arith, levels-turn _ turn.m _ turn.h c.loop-m-test.true turn.invariant.0 c.parents-m.ensures.0 turn.invariant.1)

pub returns : goal.returns
returns c =
    let n = c.args.n in
    let e = levels-end n c.loop-m.m _ (omega arith) c.loop-m.invariant.1 in
    (e, omega (arith, levels-few n (omega arith)))

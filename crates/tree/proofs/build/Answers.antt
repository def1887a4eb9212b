use native.Mathlib.Omega.{arith}
use Rattle.std.proofs.lemmas.Result.{err_from_is_err_and}
use Rattle.tree.proofs.Returns.{build-range, build-image, build-tree, build-made}
use Rattle.tree.proofs.build.Goals as goal

pub returns-in_err-check_range : goal.returns-in_err-check_range
returns-in_err-check_range c =
    let p = err_from_is_err_and c.from_residual.result c.from_residual.ensures.1 in
    let range = c.in_err-check_range.ensures in
    rw (p.1, p.2, range.0) (build-range c.args.count c.args.salt.now c.args.image.now c.args.tree.now range.1)

pub returns-then-image-count : goal.returns-then-image-count
returns-then-image-count c =
    build-image c.args.count c.args.salt.now c.args.image.now c.args.tree.now c.in_ok-check_range.ensures (omega arith)

pub returns-then-tree-tree_length : goal.returns-then-tree-tree_length
returns-then-tree-tree_length c =
    build-tree c.args.count c.args.salt.now c.args.image.now c.args.tree.now c.in_ok-check_range.ensures (omega arith) (omega (arith, c.tree_length.ensures, c.if-tree-tree_length.true))

pub returns : goal.returns
returns c =
    rw (c.fill.ensures.0, c.fill.ensures.1)
    (build-made c.args.count c.args.salt.now c.args.image.now c.args.tree.now c.in_ok-check_range.ensures (omega arith) (omega (arith, c.tree_length.ensures, c.if-tree-tree_length.false)))

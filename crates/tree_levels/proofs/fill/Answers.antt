use Prim.Native.Nat.{ℕ, ◌-◌, ◌*◌}
use native.Mathlib.Omega.{arith}
use mathlib.Core.Path.{◌≡◌, refl, sym, ap, ◌∙◌}
use mathlib.Core.List.{List}
use lib.ListN.{length, take}
use lib.Seq.{length-take-le}
use Rattle.tree_path.specs.Places.{block_size, levels_of}
use Rattle.tree_path.specs.Tree.{level_of}
use Rattle.tree_path.proofs.PlaceLaws.{levels-top, levels-none}
use Rattle.tree_path.proofs.TreeLaws.{length-level}
use Rattle.tree_levels.proofs.LevelLaws.{ends, joins, length-rest, written, written-above, reached-first, reached-turn, root-fits, root-tree, root-digest, root-without-level, tree-without-level}
use Rattle.tree_levels.proofs.fill.Goals as goal

pub block_digest-requires : goal.block_digest-requires
block_digest-requires c =
    let n = c.args.n in
    let none : levels_of n ≡ 0 = sym c.levels-h.ensures.0 ∙ omega arith in
    let one : n ≡ 1 = levels-none n (omega (arith, c.requires)) none in
    omega (arith, one, c.requires)

pub returns-then-h-eq0 : goal.returns-then-h-eq0
returns-then-h-eq0 c =
    let a = c.args in
    let none : levels_of a.n ≡ 0 = sym c.levels-h.ensures.0 ∙ omega arith in (
      c.block_digest.ensures.0 ∙ root-without-level a.n a.salt.now a.image.now a.tree.now none,
      tree-without-level a.n a.salt.now a.image.now a.tree.now none (omega (arith, c.requires)),
    )

pub slice_bounds-fill_level-count : goal.slice_bounds-fill_level-count
slice_bounds-fill_level-count c =
    let n = c.args.n in
    omega (arith, ends c.levels-h.result n c.first_block-first.result c.args.tree.now c.levels-h.ensures.0 (omega arith) c.first_block-first.ensures.0 c.requires.4)

pub slice_bounds-fill_level-start : goal.slice_bounds-fill_level-start
slice_bounds-fill_level-start c =
    let n = c.args.n in
    omega (arith, ends c.levels-h.result n c.first_block-first.result c.args.tree.now c.levels-h.ensures.0 (omega arith) c.first_block-first.ensures.0 c.requires.4)

pub fill_level-requires : goal.fill_level-requires
fill_level-requires c =
    let n = c.args.n in
    let end = ends c.levels-h.result n c.first_block-first.result c.args.tree.now c.levels-h.ensures.0 (omega arith) c.first_block-first.ensures.0 c.requires.4 in
    omega (arith, end, length-rest c.args.tree.now (c.first_block-first.result * block_size), c.requires)

pub loop-left-init : goal.loop-left-init
loop-left-init c =
    let a = c.args in
    let h = c.levels-h in
    let first = c.first_block-first.result in
    let end = ends h.result a.n first a.tree.now h.ensures.0 (omega arith) c.first_block-first.ensures.0 c.requires.4 in
    let size = ap length c.fill_level.ensures ∙ length-level a.salt.now a.n a.image.now in
    let put = written a.tree.now (first * block_size) (length a.tree.now - first * block_size) c.fill_level.new.level (level_of a.salt.now a.n a.image.now) (omega (arith, size, end)) c.fill_level.ensures in (
      omega (arith, h.ensures),
      omega (arith, c.requires, c.parents-m.ensures),
      reached-first (levels_of a.n) (h.result - 1) a.salt.now a.n c.parents-m.result first a.tree.now _ a.image.now (omega (arith, h.ensures)) (omega (arith, h.ensures))
          c.parents-m.ensures.0 c.first_block-first.ensures.0 (levels-top a.n (omega (arith, c.requires))) c.requires.4 put,
    )

pub slice_bounds-fill_level-count-in-loop-left : goal.slice_bounds-fill_level-count-in-loop-left
slice_bounds-fill_level-count-in-loop-left c =
    let turn = c.loop-left in
    omega (arith, joins turn.left turn.m c.first_block-first-in-loop-left.result turn.first (omega arith) c.first_block-first-in-loop-left.ensures.0 turn.invariant.2.place, c.split_at_mut-above.ensures.front_len)

pub slice_bounds-fill_level-start-in-loop-left : goal.slice_bounds-fill_level-start-in-loop-left
slice_bounds-fill_level-start-in-loop-left c =
    let turn = c.loop-left in
    omega (arith, joins turn.left turn.m c.first_block-first-in-loop-left.result turn.first (omega arith) c.first_block-first-in-loop-left.ensures.0 turn.invariant.2.place, c.split_at_mut-above.ensures.front_len)

pub fill_level-requires-in-loop-left : goal.fill_level-requires-in-loop-left
fill_level-requires-in-loop-left c =
    let turn = c.loop-left in
    let next = joins turn.left turn.m c.first_block-first-in-loop-left.result turn.first (omega arith) c.first_block-first-in-loop-left.ensures.0 turn.invariant.2.place in
    let parts = c.split_at_mut-above.ensures in
    let above = length-rest c.split_at_mut-above.result.0.now (c.first_block-first-in-loop-left.result * block_size) in
    let below = length-take-le (turn.m * block_size) c.split_at_mut-above.result.1.now (omega (arith, parts.back_len, turn.invariant.2.fits)) in
    (omega (arith, c.requires), turn.invariant.1, below, omega (arith, above, next, parts.front_len))

pub loop-left-preserved : goal.loop-left-preserved
loop-left-preserved c =
    let turn = c.loop-left in
    let first = c.first_block-first-in-loop-left.result in
    let next = joins turn.left turn.m first turn.first (omega arith) c.first_block-first-in-loop-left.ensures.0 turn.invariant.2.place in
    let parts = c.split_at_mut-above.ensures in
    let above = c.split_at_mut-above.result.0.now in
    let below = c.split_at_mut-above.result.1.now in
    let made = c.fill_level-in-loop-left.ensures ∙ ap (λ (b : List ℕ). level_of c.args.salt.now turn.m (take (turn.m * block_size) b)) parts.back in
    let size = ap length made ∙ length-level c.args.salt.now turn.m _ in
    let put = written-above turn.tree above below (first * block_size) (turn.first * block_size) _ c.fill_level-in-loop-left.new.level _
    (omega (arith, turn.invariant.2.fits)) parts.front parts.back refl (omega (arith, size, next)) made in
    let reached = reached-turn turn.left _ c.args.salt.now turn.m c.parents-m-in-loop-left.result turn.first first turn.tree _ _ _ (omega arith) refl
    c.parents-m-in-loop-left.ensures.0 c.first_block-first-in-loop-left.ensures.0 turn.invariant.2 put in
    (omega (arith, turn.invariant.0), omega (arith, turn.invariant.1, c.parents-m-in-loop-left.ensures), reached)

pub slice_bounds-block_digest-end : goal.slice_bounds-block_digest-end
slice_bounds-block_digest-end c =
    let turn = c.loop-left in
    root-fits _ turn.left turn.m turn.first turn.tree _ _ (omega arith) turn.invariant.2

pub slice_bounds-block_digest-end-2 : goal.slice_bounds-block_digest-end-2
slice_bounds-block_digest-end-2 c =
    let turn = c.loop-left in
    sym (length-take-le block_size turn.tree (root-fits _ turn.left turn.m turn.first turn.tree _ _ (omega arith) turn.invariant.2))

pub block_digest-requires-2 : goal.block_digest-requires-2
block_digest-requires-2 c =
    let turn = c.loop-left in
    let size = length-take-le block_size turn.tree (root-fits _ turn.left turn.m turn.first turn.tree _ _ (omega arith) turn.invariant.2) in
    omega (arith, c.requires, size)

pub returns : goal.returns
returns c =
    let turn = c.loop-left in
    let reached = turn.invariant.2 in (
      c.block_digest-2.ensures.0 ∙ root-digest _ turn.left turn.m turn.first turn.tree _ _ (omega arith) reached,
      root-tree _ turn.left turn.m turn.first turn.tree _ _ (omega arith) reached,
    )

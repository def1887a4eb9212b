-- After each turn one level more is in its place, and what is still to be filled in makes the same tree and root digest.
use Prim.Native.Nat.{◌≤◌, ◌<◌}
use Rattle.tree_path.specs.Places.{most_blocks, most_levels, levels_of}
use Rattle.tree_path.specs.Tree.{tree_of, root_of}
use Rattle.tree_levels.proofs.LevelLaws.{Reached}
use Rattle.tree_levels.proofs.fill.Given as goal

abbrev pub invariant-loop-left : goal.invariant-loop-left
invariant-loop-left l =
    (l.left < most_levels) × (l.m ≤ most_blocks) × Reached l.left l.salt l.m l.first l.tree (root_of (levels_of l.n) l.salt l.n l.image) (tree_of (levels_of l.n) l.salt l.n l.image)

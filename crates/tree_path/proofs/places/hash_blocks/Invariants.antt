-- After each turn the blocks counted and those in the levels still to come are all blocks.
use Prim.Native.Nat.{◌+◌, ◌-◌, ◌≤◌}
use mathlib.Core.Path.{◌≡◌}
use Rattle.tree_path.specs.Places.{most_blocks, hash_blocks_of}
use Rattle.tree_path.proofs.places.hash_blocks.Given as goal

abbrev pub invariant-loop : goal.invariant-loop
invariant-loop l = (l.below ≤ most_blocks) × (hash_blocks_of l.h l.m ≡ hash_blocks_of (l.h - l.counter) l.below + l.all)

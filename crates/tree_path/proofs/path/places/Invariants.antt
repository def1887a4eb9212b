-- After j turns j places are there, and the rest are those of the block that is reached.
use Prim.Native.Nat.{◌+◌, ◌-◌, ◌≤◌, ◌<◌}
use mathlib.Core.List.{◌++◌}
use mathlib.Core.Path.{◌≡◌}
use lib.ListN.{length, take, drop, replicate}
use Rattle.tree_path.specs.Places.{most_blocks, most_levels, places_of}
use Rattle.tree_path.proofs.path.places.Given as goal

abbrev pub invariant-loop-j : goal.invariant-loop-j
invariant-loop-j l =
    (l.below ≤ most_blocks) × (l.at < l.below) × (length l.r ≡ most_levels + 1) × (places_of l.h l.m l.i ≡ take l.j l.r ++ places_of (l.h - l.j) l.below l.at)
    × (drop l.j l.r ≡ replicate (most_levels + 1 - l.j) 0)

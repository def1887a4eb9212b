-- After each turn the levels passed and those above the m blocks reached are all levels.
use Prim.Native.Nat.{◌+◌, ◌≤◌}
use mathlib.Core.Path.{◌≡◌}
use Rattle.tree_path.specs.Places.{levels_of, levels_above}
use Rattle.tree_path.proofs.places.levels.Given as goal

abbrev pub invariant-loop-m : goal.invariant-loop-m
invariant-loop-m l = (l.m ≤ l.n) × (levels_of l.n ≡ l.h + levels_above l.n l.m)

abbrev pub decreases-loop-m : goal.decreases-loop-m
decreases-loop-m l = l.m

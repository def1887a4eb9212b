use Prim.Native.Nat.{ℕ, ◌*◌, ◌≤◌}
use mathlib.Core.Path.{◌≡◌}
use lib.ListN.{length}
use Rattle.model.specs.Store.{most_home_stores}
use Rattle.section.specs.Locations.{stores_below}
use Rattle.section.proofs.stores_in.Given as goal

abbrev pub invariant-loop-i : goal.invariant-loop-i
invariant-loop-i l = (l.stores ≤ most_home_stores * l.i) × ((k : ℕ) → l.stores ≡ length (stores_below l.g k l.section l.i))

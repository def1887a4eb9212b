use Prim.Native.Nat.{◌+◌}
use mathlib.Core.Path.{◌≡◌}
use lib.ListN.{length}
use Rattle.section.specs.Locations.{stores_below, store_number}
use Rattle.section.proofs.location_in.Given as goal

abbrev pub invariant-loop-i : goal.invariant-loop-i
invariant-loop-i l = length (stores_below l.g l.from.section l.section l.i) + l.left ≡ store_number l.g l.section l.from

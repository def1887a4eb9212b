-- After i turns the first i flags are set, and those of them that are true are counted.
use Prim.Native.Nat.{◌≤◌}
use mathlib.Core.Path.{◌≡◌}
use lib.ListN.{take}
use Rattle.volume_check.specs.Check.{is_bad, flags_of, count_of}
use Rattle.volume_check.proofs.bad_sectors.Given as goal

abbrev pub invariant-loop-i : goal.invariant-loop-i
invariant-loop-i l = (take l.i l.flags ≡ flags_of (is_bad l.s l.v l.st) l.i) × (l.count ≡ count_of (is_bad l.s l.v l.st) l.i) × (l.count ≤ l.i)

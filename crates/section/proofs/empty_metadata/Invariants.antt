use mathlib.Core.Path.{◌≡◌}
use lib.ListN.{length}
use Rattle.section.proofs.Clearing.{marked}
use Rattle.section.proofs.empty_metadata.Given as goal

abbrev pub invariant-loop-i : goal.invariant-loop-i
invariant-loop-i l = (l.sector ≡ marked l.t l.i) × (length l.sector ≡ 512)

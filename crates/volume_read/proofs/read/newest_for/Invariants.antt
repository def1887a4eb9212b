-- The entries from i on are for other sectors.
use Rattle.std.proofs.Common.{◌≡◌}
use Rattle.model.specs.Read.{newest_for}
use Rattle.volume_read.proofs.read.newest_for.Given as goal

abbrev pub invariant-loop-i : goal.invariant-loop-i
invariant-loop-i l = newest_for l.t l.st l.c l.c l.sector ≡ newest_for l.t l.st l.c l.i l.sector

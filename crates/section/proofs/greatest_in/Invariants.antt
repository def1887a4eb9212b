use mathlib.Core.Path.{◌≡◌}
use Rattle.octets.specs.Sectors.{sector_at}
use Rattle.on_disk.specs.Section.{id_of}
use Rattle.octets.specs.Lists.{greatest}
use Rattle.section.proofs.greatest_in.Given as goal

abbrev pub invariant-loop-j : goal.invariant-loop-j
invariant-loop-j l = l.greatest ≡ greatest l.j (λ i. id_of (sector_at l.section i))

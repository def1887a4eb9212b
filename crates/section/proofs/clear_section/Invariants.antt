use Prim.Native.Nat.{◌*◌}
use mathlib.Core.Path.{◌≡◌}
use lib.ListN.{take}
use Rattle.on_disk.specs.Section.{empty_sector}
use Rattle.octets.specs.Lists.{collect}
use Rattle.section.proofs.clear_section.Given as goal

abbrev pub invariant-loop-j : goal.invariant-loop-j
invariant-loop-j l = take (l.j * 512) l.section ≡ collect l.j (empty_sector l.t)

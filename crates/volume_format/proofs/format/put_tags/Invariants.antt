-- After i turns the first i tags are stored.
use Rattle.std.proofs.Common.{◌≡◌, ◌+◌}
use Rattle.octets.specs.Lists.{collect}
use Rattle.octets.specs.Parts.{patch}
use Rattle.octets.specs.Sectors.{sector_size}
use Rattle.model.specs.Format.{zeros}
use Rattle.sound.specs.Rule.{tag_by}
use Rattle.volume_format.proofs.format.put_tags.Given as goal

abbrev pub invariant-loop-i : goal.invariant-loop-i
invariant-loop-i l = l.v ≡ patch l.initial.v l.at (collect l.i (λ k. tag_by l.rule l.width (l.first + k) (zeros sector_size)))

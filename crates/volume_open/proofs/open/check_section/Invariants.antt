-- The first i entries can be replayed.
use mathlib.Core.Path.{◌≡◌}
use Rattle.octets.specs.Lists.{collect}
use Rattle.model.specs.State.{passed}
use Rattle.sound.specs.Rule.{tag_by}
use Rattle.volume_open.proofs.Checks.{used_at, verdict_of}
use Rattle.volume_open.proofs.open.check_section.Given as goal

abbrev pub invariant-loop-i : goal.invariant-loop-i
invariant-loop-i l = verdict_of (tag_by l.rule l.g.width) l.g (collect l.i (used_at l.g l.section l.k)) ≡ passed

use mathlib.Core.Path.{◌≡◌}
use lib.ListN.{length}
use Rattle.std.proofs.Common.{unwrap_or}
use Rattle.octets.specs.Lists.{if_below}
use Rattle.model.specs.Journal.{due_ids, replay_in, replay}
use Rattle.sound.specs.Rule.{tag_by}
use Rattle.journal.specs.Replay.{order_from}
use Rattle.volume_open.proofs.Checks.{verdict_of}
use Rattle.volume_open.proofs.open.check_replay.Given as goal

abbrev pub invariant-loop-next : goal.invariant-loop-next
invariant-loop-next l =
    (l.next ≡ if_below l.g.sections (unwrap_or l.next l.g.sections))
    × (verdict_of (tag_by l.rule l.g.width) l.g (replay l.g l.v) ≡ verdict_of (tag_by l.rule l.g.width) l.g (replay_in l.g l.v (order_from (due_ids l.g l.v) l.g.sections (unwrap_or l.next l.g.sections))))

abbrev pub decreases-loop-next : goal.decreases-loop-next
decreases-loop-next l = length (order_from (due_ids l.g l.v) l.g.sections (unwrap_or l.next l.g.sections))

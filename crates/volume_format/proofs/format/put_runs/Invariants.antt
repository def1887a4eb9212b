-- After q turns the first q runs are stored.
use Rattle.std.proofs.Common.{◌≡◌}
use Rattle.octets.specs.Lists.{collect}
use Rattle.octets.specs.Parts.{patch}
use Rattle.on_disk.specs.Layout.{run_length}
use Rattle.model.specs.Format.{fresh_run}
use Rattle.sound.specs.Rule.{tag_by}
use Rattle.volume_format.proofs.format.put_runs.Given as goal

abbrev pub invariant-loop-q : goal.invariant-loop-q
invariant-loop-q l = l.v ≡ patch l.initial.v l.at (collect l.q (λ r. fresh_run (tag_by l.rule l.g.width) l.g r (run_length l.g)))

use Rattle.std.proofs.Common.{◌≡◌, ◌*◌}
use Rattle.compression.specs.Compression.{schedule_of, rounds_of}
use Rattle.compression.specs.Ring.{ring_of}
use Rattle.compression.proofs.rounds.Given as goal

abbrev pub invariant-loop-turn : goal.invariant-loop-turn
invariant-loop-turn l = (l.w ≡ ring_of (4 * l.turn) l.b) × (l.v ≡ rounds_of (4 * l.turn) l.initial.v (schedule_of 64 l.b))

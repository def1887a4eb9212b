use Rattle.std.proofs.Common.{refl}
use Rattle.compression.specs.Compression.{rounds_of}
use Rattle.compression.specs.Ring.{ring_of}
use Rattle.compression.proofs.rounds.Goals as goal

pub loop-turn-init : goal.loop-turn-init
unfolding ring_of rounds_of
loop-turn-init c = (refl, refl)

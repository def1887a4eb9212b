use Rattle.compression.specs.Compression.{round_of}
use Rattle.compression.proofs.round.Goals as goal

pub returns : goal.returns
unfolding round_of
returns c = cc

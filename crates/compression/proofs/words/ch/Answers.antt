use Rattle.std.proofs.Common.{refl}
use Rattle.compression.specs.Words.{Ch}
use Rattle.compression.proofs.words.ch.Goals as goal

pub returns : goal.returns
unfolding Ch
returns c = refl

use Rattle.std.proofs.Common.{refl}
use Rattle.compression.specs.Compression.{added_of}
use Rattle.compression.proofs.added.Goals as goal

pub returns : goal.returns
unfolding added_of
returns c = refl

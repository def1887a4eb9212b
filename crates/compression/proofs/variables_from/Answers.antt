use Rattle.std.proofs.Common.{refl}
use Rattle.compression.specs.Compression.{variables_of}
use Rattle.compression.proofs.variables_from.Goals as goal

pub returns : goal.returns
unfolding variables_of
returns c = refl

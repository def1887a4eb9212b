use Rattle.compression.specs.Words.{σ₁}
use Rattle.compression.proofs.words.small_sigma1.Goals as goal

pub returns : goal.returns
unfolding σ₁
returns c = cc

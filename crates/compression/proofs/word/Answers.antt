use Rattle.compression.specs.Compression.{word_of}
use Rattle.compression.proofs.word.Goals as goal

pub returns : goal.returns
unfolding word_of
returns c = c.from_be_bytes.ensures

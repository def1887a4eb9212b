use Rattle.std.proofs.Common.{arith}
use Rattle.compression.proofs.Ring.{block-turn}
use Rattle.compression.proofs.put_block_word.Goals as goal

pub returns : goal.returns
returns c = block-turn _ _ c.args.t c.word.result (omega arith) c.requires.2 c.word.ensures

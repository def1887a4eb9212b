use Rattle.c_digest.proofs.DigestStates.{read}
use Rattle.c_digest.proofs.state.decode.Goals as goal

pub returns : goal.returns
returns c = read c.args.buffer.now c.read_words-words.result _ c.number-count.result c.read_words-words.ensures c.copy_from_slice.ensures.after c.number-count.ensures.0

use mathlib.Core.Path.{◌≡◌}
use lib.ListN.{length, take}
use Rattle.c_digest.specs.DigestState.{words_of}
use Rattle.c_digest.proofs.state.read_words.Given as goal

abbrev pub invariant-loop-i : goal.invariant-loop-i
invariant-loop-i l = (length l.word-items ≡ 8) × (take l.i l.word-items ≡ words_of l.i l.buffer)

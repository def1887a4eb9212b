use mathlib.Core.Path.{◌≡◌}
use lib.ListN.{take}
use Rattle.octets.specs.Parts.{patch}
use Rattle.c_digest.specs.DigestState.{word_bytes_of}
use Rattle.c_digest.proofs.state.put_words.Given as goal

abbrev pub invariant-loop-i : goal.invariant-loop-i
invariant-loop-i l = l.buffer ≡ patch l.initial.buffer 0 (word_bytes_of (take l.i l.word-items))

use Rattle.std.proofs.Common.{◌≡◌}
use Rattle.compression.specs.Ring.{ring_of}
use Rattle.compression.proofs.put_words.Given as goal

abbrev pub invariant-loop-i : goal.invariant-loop-i
invariant-loop-i l = l.w ≡ ring_of l.i l.b

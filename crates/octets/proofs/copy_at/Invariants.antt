-- After i turns the first i of the n bytes are pasted in.
use Rattle.std.proofs.Common.{◌≡◌}
use lib.Seq.{paste}
use Rattle.octets.specs.Parts.{part}
use Rattle.octets.proofs.copy_at.Given as goal

abbrev pub invariant-loop-i : goal.invariant-loop-i
invariant-loop-i l = l.d ≡ paste l.initial.d l.at (part l.s l.from l.n) l.i

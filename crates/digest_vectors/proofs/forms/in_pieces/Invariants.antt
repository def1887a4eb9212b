use Rattle.std.proofs.Common.{◌<◌, ◌≤◌, length}
use Rattle.digest_vectors.proofs.forms.in_pieces.Given as goal

abbrev pub invariant-loop-rest : goal.invariant-loop-rest
invariant-loop-rest l = (0 < l.size) × (l.size ≤ 97)

abbrev pub decreases-loop-rest : goal.decreases-loop-rest
decreases-loop-rest l = length l.rest

-- The million bytes are not computed, so the length is a lemma's.
use Rattle.std.proofs.Common.{sym}
use Rattle.std.proofs.lemmas.List.{length-replicate}
use Rattle.digest_vectors.proofs.million.Goals as goal

pub slice_bounds-vector-end : goal.slice_bounds-vector-end
slice_bounds-vector-end g c = sym (length-replicate 1000000 c.args.x)

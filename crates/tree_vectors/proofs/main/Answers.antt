-- The image's bytes are not computed, so the length is a lemma's.
use Rattle.std.proofs.Common.{ℕ, sym}
use Rattle.std.proofs.lemmas.List.{length-replicate}
use Rattle.tree_vectors.proofs.main.Goals as goal

pub slice_bounds-lines-end : goal.slice_bounds-lines-end
slice_bounds-lines-end c = sym (length-replicate {A = ℕ} 1228800 0)

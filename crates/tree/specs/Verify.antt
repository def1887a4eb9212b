-- The call that verifies a data block. R86: refused 1 (block, root digest), 2 (count, salt length, index), 1 (tree), then 12
-- where a digest computed along the path differs from what stands above it, compared from the root down.
--
-- loan_rows b i t n s r  : the refusals 1 and 2 for the data block b, index i, tree t, count n, salt s and root digest r, in order
-- path_rows k xs ys      : the refusals 12, from the root down: xs are the digests computed and ys what stands above each, the first of them at place k on the path
-- compared_of xs ys      : the first of those that is met on a whole path
-- verify_of b i t n s r  : the first of all that is met, which is the call's answer
use Rattle.std.specs.Prelude.{ℕ, suc, Bool, not, List, [], ◌∷◌, ◌++◌, eqb, ltb, leb, ℤ, length}
use Rattle.octets.specs.Answer.{Answer, taken, refuse}
use Rattle.octets.specs.Choice.{differs, first_met}
use Rattle.octets.specs.Parts.{same}
use Rattle.digest.specs.Sha256.{digest_size}
use Rattle.tree_path.specs.Places.{block_size, most_blocks, longest_salt, levels_of, places_of, tree_length}
use Rattle.tree_path.specs.Path.{computed_of, standing_of}
use Rattle.tree.specs.Answer.{mismatch}

abbrev pub loan_rows : List ℕ → ℕ → List ℕ → ℕ → List ℕ → List ℕ → List (Bool × Answer ℤ (Unit {0}))
loan_rows b i t n s r =
    (differs (length b) block_size, refuse 1 []) ∷
    (differs (length r) digest_size, refuse 1 []) ∷
    (eqb n 0, refuse 2 []) ∷
    (ltb most_blocks n, refuse 2 []) ∷
    (ltb longest_salt (length s), refuse 2 []) ∷
    (leb n i, refuse 2 []) ∷
    (differs (length t) (tree_length n), refuse 1 []) ∷ []

unfoldable pub path_rows : ℕ → List (List ℕ) → List (List ℕ) → List (Bool × Answer ℤ (Unit {0}))
path_rows k [] ys = []
path_rows k (x ∷ xs) [] = []
path_rows k (x ∷ xs) (y ∷ ys) = path_rows (suc k) xs ys ++ ((not (same x y), mismatch k) ∷ [])

abbrev pub compared_of : List (List ℕ) → List (List ℕ) → Answer ℤ (Unit {0})
compared_of xs ys = first_met (path_rows 0 xs ys) (taken tt)

unfoldable pub verify_of : List ℕ → ℕ → List ℕ → ℕ → List ℕ → List ℕ → Answer ℤ (Unit {0})
verify_of b i t n s r =
    first_met
    (loan_rows b i t n s r ++ path_rows 0 (computed_of s t b (places_of (levels_of n) n i)) (standing_of r t (places_of (levels_of n) n i)))
    (taken tt)

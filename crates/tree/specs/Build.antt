-- The call that builds a tree. R87: refused 2 (count, salt length), then 1 (image, tree).
--
-- BuildOutcome          : the answer, the root digest and the bytes of the tree loan
-- outcome_of b t         : what the call returned and left in the tree loan; the root digest is zeros where it returned a refusal
-- not_built k t          : refused with k, with the tree loan t as it was
-- build_rows n s d t     : the refusals for the count n, salt s, image d and tree loan t, in order
-- build_of n s d t       : what the call does. Refused, it leaves the loan as it was, and the root digest is zeros
use Rattle.std.specs.Prelude.{ℕ, ◌*◌, Bool, List, [], ◌∷◌, eqb, ltb, ℤ, length, replicate, Result, Ok, Err}
use Rattle.octets.specs.Answer.{Answer, taken, refused, refuse}
use Rattle.octets.specs.Choice.{differs, first_met}
use Rattle.tree.specs.declared.Refusal as code
use Rattle.digest.specs.Sha256.{digest_size}
use Rattle.tree_path.specs.Places.{block_size, most_blocks, longest_salt, levels_of, tree_length}
use Rattle.tree_path.specs.Tree.{tree_of, root_of}
use Rattle.tree.specs.Answer.{refusal_of}

pub record BuildOutcome : Type 0 where
  pub answer : Answer ℤ (Unit {0})
  pub root : List ℕ
  pub tree : List ℕ

abbrev pub outcome_of : Result (List ℕ) code.Refusal → List ℕ → BuildOutcome
outcome_of (Ok root) t = record { answer = taken tt; root = root; tree = t }
outcome_of (Err r) t = record { answer = refused (refusal_of r); root = replicate digest_size 0; tree = t }

abbrev pub not_built : ℕ → List ℕ → BuildOutcome
not_built k t = record { answer = refuse k []; root = replicate digest_size 0; tree = t }

abbrev pub build_rows : ℕ → List ℕ → List ℕ → List ℕ → List (Bool × BuildOutcome)
build_rows n s d t =
    (eqb n 0, not_built 2 t) ∷
    (ltb most_blocks n, not_built 2 t) ∷
    (ltb longest_salt (length s), not_built 2 t) ∷
    (differs (length d) (n * block_size), not_built 1 t) ∷
    (differs (length t) (tree_length n), not_built 1 t) ∷ []

abbrev pub built_of : ℕ → List ℕ → List ℕ → BuildOutcome
built_of n s d = record { answer = taken tt; root = root_of (levels_of n) s n d; tree = tree_of (levels_of n) s n d }

unfoldable pub build_of : ℕ → List ℕ → List ℕ → List ℕ → BuildOutcome
build_of n s d t = first_met (build_rows n s d t) (built_of n s d)

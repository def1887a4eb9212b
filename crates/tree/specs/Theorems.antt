-- What is proved of building and verifying, beyond each call's own contract; the proofs are in proofs/Theorems.
use Rattle.std.specs.Prelude.{ℕ, suc, ◌*◌, ◌≤◌, ◌<◌, not, List, [], ◌∷◌, ◌++◌, ◌≢◌, ◌≡◌, eqb, ltb, leb, negsuc, length, get_or, Result}
use Rattle.octets.specs.Answer.{taken, refuse}
use Rattle.octets.specs.Choice.{differs, first_met}
use Rattle.octets.specs.Parts.{same}
use Rattle.digest.specs.Sha256.{digest_size, sha256}
use Rattle.tree_path.specs.Places.{block_size, digests_per_block, most_blocks, longest_salt, parents_of, levels_above, levels_of, places_of, tree_length}
use Rattle.tree_path.specs.Tree.{block_of}
use Rattle.tree_path.specs.Path.{computed_of, standing_of}
use Rattle.tree.specs.declared.Refusal as code
use Rattle.tree.specs.Answer.{mismatch, answer_of}
use Rattle.tree.specs.Build.{outcome_of, not_built, build_of}
use Rattle.tree.specs.Verify.{verify_of}
use Rattle.tree.specs.Acceptance.{Fits, Acceptable}

-- Number and values tell the answers apart, verify's and build's: a contract that states them states the answer.
abbrev pub AnswersDiffer : Type 0
AnswersDiffer =
    ((a b : Result (Unit {0}) code.Refusal) → answer_of a ≡ answer_of b → a ≡ b)
    × ((a b : Result (List ℕ) code.Refusal) (t u : List ℕ) → outcome_of a t ≡ outcome_of b u → a ≡ b)

-- Verifying accepts exactly the blocks that are to be accepted.
abbrev pub AcceptsExactly : Type 0
AcceptsExactly =
    (b : List ℕ) (i : ℕ) (t : List ℕ) (n : ℕ) (s r : List ℕ)
    → (verify_of b i t n s r ≡ taken tt → Acceptable b i t n s r) × (Acceptable b i t n s r → verify_of b i t n s r ≡ taken tt)

-- R4: for every count, salt and image, building is not refused, and each block of the image is accepted at its own index with the tree that was
-- built and the root digest that was returned.
abbrev pub BuiltIsAccepted : Type 0
BuiltIsAccepted =
    (n : ℕ) (s d t : List ℕ) → 0 < n → n ≤ most_blocks → length s ≤ longest_salt → length d ≡ n * block_size → length t ≡ tree_length n
    → ((build_of n s d t).answer ≡ taken tt)
    × ((i : ℕ) → i < n → verify_of (block_of d i) i (build_of n s d t).tree n s (build_of n s d t).root ≡ taken tt)

-- Of the digests xs and ys, those at place k differ, and all above agree.
pub record DiffersAt (xs ys : List (List ℕ)) (k : ℕ) : Type 0 where
  pub inside : k < length xs
  pub differ : get_or xs k [] ≢ get_or ys k []
  pub agree : (j : ℕ) → k < j → j < length xs → get_or xs j [] ≡ get_or ys j []

-- Where nothing is refused before it, 12 names exactly the highest place on the path at which what is computed differs from what stands above it.
abbrev pub NamesHighest : Type 0
NamesHighest =
    (b : List ℕ) (i : ℕ) (t : List ℕ) (n : ℕ) (s r : List ℕ) → Fits b i t n s r → (k : ℕ)
    → (verify_of b i t n s r ≡ mismatch k → DiffersAt (computed_of s t b (places_of (levels_of n) n i)) (standing_of r t (places_of (levels_of n) n i)) k)
    × (DiffersAt (computed_of s t b (places_of (levels_of n) n i)) (standing_of r t (places_of (levels_of n) n i)) k → verify_of b i t n s r ≡ mismatch k)

-- ---- one data block, and more

-- R110: building over one data block, whatever else is handed in. The tree loan has length 0, and stays empty; the root digest is that of the salt and the block.
abbrev pub OneBlockBuilt : Type 0
OneBlockBuilt =
    (s d t : List ℕ)
    → build_of 1 s d t
    ≡ first_met
    ((ltb longest_salt (length s), not_built 2 t) ∷
    (differs (length d) block_size, not_built 1 t) ∷
    (differs (length t) 0, not_built 1 t) ∷ [])
    (record { answer = taken tt; root = sha256 (s ++ d); tree = [] })

-- R110, R111: verifying one data block, whatever else is handed in. The tree loan has length 0, and a mismatch is 12 at level −1, which is `negsuc 0`.
abbrev pub OneBlockVerified : Type 0
OneBlockVerified =
    (b : List ℕ) (i : ℕ) (t s r : List ℕ)
    → verify_of b i t 1 s r
    ≡ first_met
    ((differs (length b) block_size, refuse 1 []) ∷
    (differs (length r) digest_size, refuse 1 []) ∷
    (ltb longest_salt (length s), refuse 2 []) ∷
    (leb 1 i, refuse 2 []) ∷
    (differs (length t) 0, refuse 1 []) ∷
    (not (same (sha256 (s ++ b)) r), refuse 12 (negsuc 0 ∷ [])) ∷ [])
    (taken tt)

-- R112: from two data blocks on there is a level of their digests, and above it what leads from its blocks to one, as R80 has it. That is all that the
-- tree, its root digest and the path of a block are made of.
abbrev pub FromTwoBlocks : Type 0
FromTwoBlocks = (n : ℕ) → 1 < n → levels_of n ≡ suc (levels_above n (parents_of n))

-- R112: the path of one data block has one digest, that of a block of up to 128 two, of any other three.
abbrev pub PathDigests : Type 0
PathDigests =
    (b : List ℕ) (i : ℕ) (t : List ℕ) (n : ℕ) (s : List ℕ) → 0 < n → n ≤ most_blocks
    → length (computed_of s t b (places_of (levels_of n) n i)) ≡ first_met ((eqb n 1, 1) ∷ (leb n digests_per_block, 2) ∷ []) 3

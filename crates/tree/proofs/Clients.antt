-- Uses of the top statements, each at an instance that only the whole statement gives: so that a statement which is made weaker, and is then still
-- proved, is refused here.
use Prim.Native.Nat.{ℕ, suc, ◌+◌, ◌*◌, ◌≤◌, ◌<◌}
use mathlib.Core.Bool.{true, false}
use mathlib.Core.List.{List, [], ◌∷◌, ◌++◌}
use mathlib.Core.Path.{◌≡◌, ◌∙◌}
use native.Mathlib.Omega.{arith}
use lib.IntN.{negsuc}
use lib.ListN.{length}
use Rattle.std.specs.Prelude.{Result, Ok, Err}
use Rattle.octets.specs.Answer.{taken, refuse}
use Rattle.octets.specs.Parts.{same}
use Rattle.digest.specs.Sha256.{sha256}
use Rattle.tree.specs.declared.Refusal as code
use Rattle.tree.specs.declared.Refusal.TheVariants.{OutOfRange, LevelDiffers}
use Rattle.tree.specs.Answer.{answer_of, mismatch}
use Rattle.tree_path.specs.Places.{parents_of, levels_above, levels_of, places_of, tree_length}
use Rattle.tree_path.specs.Tree.{block_of}
use Rattle.tree_path.specs.Path.{computed_of, standing_of}
use Rattle.tree.specs.Build.{outcome_of, not_built, build_of}
use Rattle.tree.specs.Verify.{verify_of}
use Rattle.tree.specs.Acceptance.{Fits, Acceptable}
use Rattle.tree.specs.Theorems.{DiffersAt}
use Rattle.tree.proofs.Theorems.{answers-differ, accepts-exactly, names-highest, built-is-accepted, one-block-built, one-block-verified, from-two-blocks, path-digests}

-- ---- what is built is accepted: the last block of the largest image under the longest salt, and the only block of the smallest under none

largest : (s d t : List ℕ) → length s ≡ 32 → length d ≡ 16384 * 4096 → length t ≡ tree_length 16384
    → verify_of (block_of d 16383) 16383 (build_of 16384 s d t).tree 16384 s (build_of 16384 s d t).root ≡ taken tt
largest s d t ls ld lt = (built-is-accepted 16384 s d t (omega arith) (omega arith) (omega arith) ld lt).1 16383 (omega arith)

smallest : (d t : List ℕ) → length d ≡ 1 * 4096 → length t ≡ tree_length 1 → verify_of (block_of d 0) 0 (build_of 1 [] d t).tree 1 [] (build_of 1 [] d t).root ≡ taken tt
smallest d t ld lt = (built-is-accepted 1 [] d t (omega arith) (omega arith) (omega arith) ld lt).1 0 (omega arith)

any-taken : (n : ℕ) (s d t : List ℕ) → 0 < n → n ≤ 16384 → length s ≤ 32 → length d ≡ n * 4096 → length t ≡ tree_length n → (build_of n s d t).answer ≡ taken tt
any-taken n s d t some most salt ld lt = (built-is-accepted n s d t some most salt ld lt).0

-- ---- verifying, of anything that is handed in

module _ (b : List ℕ) (i : ℕ) (t : List ℕ) (n : ℕ) (s r : List ℕ) where
  only-acceptable : verify_of b i t n s r ≡ taken tt → Acceptable b i t n s r
  only-acceptable = (accepts-exactly b i t n s r).0

  all-acceptable : Acceptable b i t n s r → verify_of b i t n s r ≡ taken tt
  all-acceptable = (accepts-exactly b i t n s r).1

  -- 12 for the data block, and the other way for any level
  data-named : Fits b i t n s r → verify_of b i t n s r ≡ mismatch 0 → DiffersAt (computed_of s t b (places_of (levels_of n) n i)) (standing_of r t (places_of (levels_of n) n i)) 0
  data-named f = (names-highest b i t n s r f 0).0

  level-named : Fits b i t n s r → (l : ℕ) → DiffersAt (computed_of s t b (places_of (levels_of n) n i)) (standing_of r t (places_of (levels_of n) n i)) (l + 1)
      → verify_of b i t n s r ≡ mismatch (l + 1)
  level-named f l = (names-highest b i t n s r f (l + 1)).1

-- ---- two levels are told apart

levels-apart : (l m : ℕ) → answer_of (Err (LevelDiffers l)) ≡ answer_of (Err (LevelDiffers m)) → ◌≡◌ {A = Result (Unit {0}) code.Refusal} (Err (LevelDiffers l)) (Err (LevelDiffers m))
levels-apart l m = answers-differ.0 (Err (LevelDiffers l)) (Err (LevelDiffers m))

-- ---- two root digests are told apart, and a root digest from a refusal

roots-apart : (r q t : List ℕ) → outcome_of (Ok r) t ≡ outcome_of (Ok q) t → ◌≡◌ {A = Result (List ℕ) code.Refusal} (Ok r) (Ok q)
roots-apart r q t = answers-differ.1 (Ok r) (Ok q) t t

never-refused : (r t : List ℕ) → outcome_of (Ok r) t ≡ outcome_of (Err OutOfRange) t → ◌≡◌ {A = Result (List ℕ) code.Refusal} (Ok r) (Err OutOfRange)
never-refused r t = answers-differ.1 (Ok r) (Err OutOfRange) t t

-- ---- one data block, under the longest salt: what is built, a tree loan that is not empty, and a block that is verified

module _ (s d : List ℕ) (ls : length s ≡ 32) (ld : length d ≡ 4096) where
  only-built : build_of 1 s d [] ≡ record { answer = taken tt; root = sha256 (s ++ d); tree = [] }
  only-built = one-block-built s d [] ∙ rw (ls, ld)

  only-refused : (t : List ℕ) → length t ≡ 4096 → build_of 1 s d t ≡ not_built 1 t
  only-refused t lt = one-block-built s d t ∙ rw (ls, ld, lt)

  only-verified : (r : List ℕ) → length r ≡ 32 → same (sha256 (s ++ d)) r ≡ true → verify_of d 0 [] 1 s r ≡ taken tt
  only-verified r lr e = one-block-verified d 0 [] s r ∙ rw (ls, ld, lr, e)

  only-differs : (r : List ℕ) → length r ≡ 32 → same (sha256 (s ++ d)) r ≡ false → verify_of d 0 [] 1 s r ≡ refuse 12 (negsuc 0 ∷ [])
  only-differs r lr e = one-block-verified d 0 [] s r ∙ rw (ls, ld, lr, e)

-- ---- from two data blocks on, and the path at each count where its length changes

least-levels : levels_of 2 ≡ suc (levels_above 2 (parents_of 2))
least-levels = from-two-blocks 2 (omega arith)

module _ (b t s : List ℕ) where
  abbrev path-of : ℕ → ℕ → List (List ℕ)
  path-of n i = computed_of s t b (places_of (levels_of n) n i)

  one-digest : length (path-of 1 0) ≡ 1
  one-digest = path-digests b 0 t 1 s (omega arith) (omega arith)

  two-digests : (length (path-of 2 0) ≡ 2) × (length (path-of 128 127) ≡ 2)
  two-digests = (path-digests b 0 t 2 s (omega arith) (omega arith), path-digests b 127 t 128 s (omega arith) (omega arith))

  three-digests : (length (path-of 129 0) ≡ 3) × (length (path-of 16384 16383) ≡ 3)
  three-digests = (path-digests b 0 t 129 s (omega arith) (omega arith), path-digests b 16383 t 16384 s (omega arith) (omega arith))

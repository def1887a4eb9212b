-- The theorems of specs/Theorems.
use Prim.Native.Nat.{ℕ, zero, suc, ◌+◌, ◌*◌, ◌<◌}
use native.Mathlib.Omega.{arith}
use mathlib.Core.List.{List, [], ◌∷◌, ◌++◌, append-nil}
use mathlib.Core.Logic.{◌≢◌, ⊎_elim}
use mathlib.Core.Path.{◌≡◌, refl, sym, ap, ◌∙◌, subst}
use lib.Dec.{eqb, leb}
use lib.IntN.{ℤ, pos, negsuc}
use lib.ListN.{length}
use borrow.Author.Tests.{ne_eqb, lt-leb, le-leb, eqb-true, eqb-false, ltb-false, leb-false, not-false}
use Rattle.std.specs.Prelude.{Result, Ok, Err}
use Rattle.octets.specs.Answer.{Answer, taken, refused, refuse, number_in}
use Rattle.octets.specs.Answer as octets
use Rattle.octets.specs.Choice.{pick, first_met}
use Rattle.octets.proofs.Choice.{Unmet, unmet}
use Rattle.octets.proofs.Parts.{length_part}
use Rattle.tree.specs.declared.Refusal as code
use Rattle.tree.specs.declared.Refusal.TheVariants.{WrongLength, OutOfRange, DataDiffers, LevelDiffers}
use Rattle.digest.specs.Sha256.{digest_size}
use Rattle.tree_path.specs.Places.{block_size, digests_per_block, most_blocks, longest_salt, levels_above, levels_of, hash_blocks_of, places_of, tree_length}
use Rattle.tree_path.specs.Tree.{block_of, tree_of, root_of}
use Rattle.tree_path.specs.Path.{risers_of, computed_of, standing_of, Verifies}
use Rattle.tree.specs.Answer.{level_at, mismatch, refusal_of, answer_of}
use Rattle.tree.specs.Build.{BuildOutcome, outcome_of, built_of, build_of}
use Rattle.tree.specs.Verify.{loan_rows, path_rows, compared_of, verify_of}
use Rattle.tree.specs.Acceptance.{Fits, Acceptable}
use Rattle.tree.specs.Theorems.{AnswersDiffer, AcceptsExactly, BuiltIsAccepted, DiffersAt, NamesHighest, OneBlockBuilt, OneBlockVerified, FromTwoBlocks, PathDigests}
use Rattle.tree_path.proofs.PlaceLaws.{below_or, levels-top, levels-several, levels-one, levels-two, length-places}
use Rattle.tree_path.proofs.TreeLaws.{length-tree, length-root}
use Rattle.tree_path.proofs.PathLaws.{length-computed, length-standing}
use Rattle.tree.proofs.Comparison.{Compared, agree, differ, compared, mismatch-refused, path-refuses, agree-taken, differ-named}
use Rattle.tree_path.proofs.Acceptance.{path-agrees, path-verifies, built-verifies}
use Rattle.tree.proofs.Returns.{verify-path, build-made}

-- ---- answers

-- a refusal, from its number and values
case_told : octets.Refusal ℤ → code.Refusal
case_told r = go r.number r.values
  where
    go : ℕ → List ℤ → code.Refusal
    go n (pos l ∷ vs) = LevelDiffers l
    go n (negsuc x ∷ vs) = DataDiffers
    go n [] = pick (eqb n 1) WrongLength OutOfRange

case_back : (r : code.Refusal) → case_told (refusal_of r) ≡ r
unfolding case_told
case_back WrongLength = refl
case_back OutOfRange = refl
case_back DataDiffers = refl
case_back (LevelDiffers l) = refl

-- what a call returned, from its answer and what it gave
abbrev told : {A : Type 0} → Answer ℤ (Unit {0}) → A → Result A code.Refusal
told (taken x) given = Ok given
told (refused r) given = Err (case_told r)

verified_back : (a : Result (Unit {0}) code.Refusal) → told (answer_of a) tt ≡ a
verified_back (Ok x) = refl
verified_back (Err r) = ap Err (case_back r)

built_back : (a : Result (List ℕ) code.Refusal) (t : List ℕ) → told (outcome_of a t).answer (outcome_of a t).root ≡ a
built_back (Ok root) t = refl
built_back (Err r) t = ap Err (case_back r)

pub answers-differ : AnswersDiffer
answers-differ = (
  λ a b e. sym (verified_back a) ∙ ap (λ (x : Answer ℤ (Unit {0})). told x tt) e ∙ verified_back b,
  λ a b t u e. sym (built_back a t) ∙ ap (λ (o : BuildOutcome). told o.answer o.root) e ∙ built_back b u,
)

-- ---- verifying

module _ (b : List ℕ) (i : ℕ) (t : List ℕ) (n : ℕ) (s r : List ℕ) where
  abbrev computed_here : List (List ℕ)
  computed_here = computed_of s t b (places_of (levels_of n) n i)

  abbrev standing_here : List (List ℕ)
  standing_here = standing_of r t (places_of (levels_of n) n i)

  as_long : length computed_here ≡ length standing_here
  as_long = length-computed s t b (places_of (levels_of n) n i) ∙ sym (length-standing r t (places_of (levels_of n) n i))

  fitting : Fits b i t n s r → verify_of b i t n s r ≡ compared_of computed_here standing_here
  fitting f =
      sym (verify-path b i t n s r f.block f.digest (f.some, f.count, f.salt) f.index f.tree)

  -- a refusal is not taken
  refusal : (k : ℕ) → 0 < k → refuse k [] ≢ answer_of (Ok tt)
  refusal k l e = let z : k ≡ 0 = ap (λ (x : Answer ℤ (Unit {0})). number_in x) e in omega arith

  refused-1 : refuse 1 [] ≢ answer_of (Ok tt)
  refused-1 = refusal 1 (omega arith)

  refused-2 : refuse 2 [] ≢ answer_of (Ok tt)
  refused-2 = refusal 2 (omega arith)

  passed : verify_of b i t n s r ≡ taken tt → Unmet (loan_rows b i t n s r ++ path_rows 0 computed_here standing_here)
  unfolding verify_of
  passed e =
      unmet (loan_rows b i t n s r ++ path_rows 0 computed_here standing_here) (taken tt)
      (refused-1, (refused-1, (refused-2, (refused-2, (refused-2, (refused-2, (refused-1, path-refuses 0 computed_here standing_here))))))) e

  fits-taken : verify_of b i t n s r ≡ taken tt → Fits b i t n s r
  fits-taken e =
      let u = passed e in
      let none : n ≢ 0 = eqb-false n 0 u.1.1.0 in record {
        block = eqb-true (length b) block_size (not-false _ u.0);
        digest = eqb-true (length r) digest_size (not-false _ u.1.0);
        some = omega arith;
        count = ltb-false most_blocks n u.1.1.1.0;
        salt = ltb-false longest_salt (length s) u.1.1.1.1.0;
        index = leb-false n i u.1.1.1.1.1.0;
        tree = eqb-true (length t) (tree_length n) (not-false _ u.1.1.1.1.1.1.0);
      }

  path-taken : compared_of computed_here standing_here ≡ taken tt → computed_here ≡ standing_here
  path-taken e = go (compared computed_here standing_here as_long)
    where
      go : Compared computed_here standing_here → computed_here ≡ standing_here
      go (agree q) = q
      go (differ k d) = absurd (mismatch-refused k (sym (differ-named computed_here standing_here k as_long d) ∙ e))

  accept : verify_of b i t n s r ≡ taken tt → Acceptable b i t n s r
  accept e =
      let f = fits-taken e in
      record { fits = f; verifies = path-verifies s t r (levels_of n) n i b (path-taken (sym (fitting f) ∙ e)) }

  accepted : Acceptable b i t n s r → verify_of b i t n s r ≡ taken tt
  accepted a = fitting a.fits ∙ agree-taken computed_here standing_here (path-agrees s t r (levels_of n) n i b a.verifies)

pub accepts-exactly : AcceptsExactly
accepts-exactly b i t n s r = (accept b i t n s r, accepted b i t n s r)

-- ---- the level that 12 names

place-named : (j k : ℕ) → mismatch j ≡ mismatch k → j ≡ k
place-named j k e = go j k (ap values_in e)
  where
    values_in : Answer ℤ (Unit {0}) → List ℤ
    values_in (taken x) = []
    values_in (refused r) = r.values

    go : (j k : ℕ) → level_at j ∷ [] ≡ level_at k ∷ [] → j ≡ k
    go zero zero e = refl
    go zero (suc k) e = absurd (let z : ◌≡◌ {A = ℕ} 0 1 = cc in omega arith)
    go (suc j) zero e = absurd (let z : ◌≡◌ {A = ℕ} 0 1 = cc in omega arith)
    go (suc j) (suc k) e = let q : j ≡ k = cc in ap suc q

pub names-highest : NamesHighest
names-highest b i t n s r f k = (named, λ d. fitting b i t n s r f ∙ differ-named xs ys k same_length d)
  where
    xs : List (List ℕ)
    xs = computed_of s t b (places_of (levels_of n) n i)

    ys : List (List ℕ)
    ys = standing_of r t (places_of (levels_of n) n i)

    same_length : length xs ≡ length ys
    same_length = as_long b i t n s r

    from : compared_of xs ys ≡ mismatch k → Compared xs ys → DiffersAt xs ys k
    from e (agree q) = absurd (mismatch-refused k (sym e ∙ agree-taken xs ys q))
    from e (differ j d) = subst (DiffersAt xs ys) (place-named j k (sym (differ-named xs ys j same_length d) ∙ e)) d

    named : verify_of b i t n s r ≡ mismatch k → DiffersAt xs ys k
    named e = from (sym (fitting b i t n s r f) ∙ e) (compared xs ys same_length)

-- ---- building, then verifying

pub built-is-accepted : BuiltIsAccepted
built-is-accepted n s d t some count salt image size = (ap (λ (o : BuildOutcome). o.answer) (sym built), each)
  where
    built : built_of n s d ≡ build_of n s d t
    built = build-made n s d t (some, count, salt) image size

    fits : (i : ℕ) → i < n → Fits (block_of d i) i (tree_of (levels_of n) s n d) n s (root_of (levels_of n) s n d)
    fits i l = record {
      block = length_part d (i * block_size) block_size (omega arith);
      digest = length-root (levels_of n) s n d;
      some = some;
      count = count;
      salt = salt;
      index = l;
      tree = length-tree (levels_of n) s n d;
    }

    verifies : (i : ℕ) → i < n → Verifies s (tree_of (levels_of n) s n d) (root_of (levels_of n) s n d) (levels_of n) n i (block_of d i)
    verifies i l =
        built-verifies (levels_of n) s n d (tree_of (levels_of n) s n d) [] i (sym (append-nil (tree_of (levels_of n) s n d))) (levels-top n some) image l

    each : (i : ℕ) → i < n → verify_of (block_of d i) i (build_of n s d t).tree n s (build_of n s d t).root ≡ taken tt
    each i l =
        ap (λ (o : BuildOutcome). verify_of (block_of d i) i o.tree n s o.root) (sym built)
        ∙ (accepts-exactly (block_of d i) i (tree_of (levels_of n) s n d) n s (root_of (levels_of n) s n d)).1 (record { fits = fits i l; verifies = verifies i l })

-- ---- one data block, and more

pub one-block-built : OneBlockBuilt
unfolding build_of levels_of levels_above hash_blocks_of tree_of root_of
one-block-built s d t = refl

pub one-block-verified : OneBlockVerified
unfolding verify_of path_rows levels_of levels_above hash_blocks_of places_of risers_of standing_of
one-block-verified b i t s r = refl

pub from-two-blocks : FromTwoBlocks
from-two-blocks = levels-several

pub path-digests : PathDigests
unfolding levels_of levels_above
path-digests b i t n s some count =
    length-computed s t b (places_of (levels_of n) n i)
    ∙ ap (λ (k : ℕ). k + 1) (length-places (levels_of n) n i)
    ∙ ⊎_elim several (λ l. let one : n ≡ 1 = omega arith in rw one) (below_or 1 n)
  where
    several : 1 < n → levels_of n + 1 ≡ first_met ((eqb n 1, 1) ∷ (leb n digests_per_block, 2) ∷ []) 3
    several p =
        rw (ne_eqb n 1 (omega arith))
        (⊎_elim
        (λ m. rw (lt-leb n digests_per_block m, levels-two n m count))
        (λ l. rw (le-leb n digests_per_block l, levels-one n p l))
        (below_or digests_per_block n))

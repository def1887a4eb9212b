-- What each rule leads to: one law to a return of build and verify, under the tests that were passed before it.
use Prim.Native.Nat.{ℕ, ◌*◌, ◌≤◌, ◌<◌}
use native.Mathlib.Omega.{arith}
use mathlib.Core.Bool.{Bool, true, false}
use mathlib.Core.List.{List, []}
use mathlib.Core.Logic.{◌≢◌}
use mathlib.Core.Path.{◌≡◌, refl}
use lib.Dec.{eqb, ltb}
use lib.ListN.{length}
use borrow.Author.Tests.{eqb-false, ltb-false, eq-eqb, ne_eqb, le-ltb, le-leb, lt-leb}
use Rattle.octets.specs.Answer.{refuse}
use Rattle.octets.specs.Choice.{pick}
use Rattle.digest.specs.Sha256.{digest_size}
use Rattle.tree_path.specs.Places.{block_size, most_blocks, longest_salt, levels_of, places_of, tree_length}
use Rattle.tree_path.specs.Path.{computed_of, standing_of}
use Rattle.tree.specs.Acceptance.{InRange}
use Rattle.tree.specs.Build.{not_built, built_of, build_of}
use Rattle.tree.specs.Verify.{compared_of, verify_of}

-- the three rows of the count and the salt's length, which answer alike
range_met : {A : Type 0} (n : ℕ) (s : List ℕ) (x y : A) → ¬ (InRange n s) → x ≡ pick (eqb n 0) x (pick (ltb most_blocks n) x (pick (ltb longest_salt (length s)) x y))
range_met {A} n s x y h = go (eqb n 0) (ltb most_blocks n) (ltb longest_salt (length s)) refl refl refl
  where
    go : (p q r : Bool) → eqb n 0 ≡ p → ltb most_blocks n ≡ q → ltb longest_salt (length s) ≡ r → x ≡ pick p x (pick q x (pick r x y))
    go true q r ep eq er = refl
    go false true r ep eq er = refl
    go false false true ep eq er = refl
    go false false false ep eq er =
        let some : n ≢ 0 = eqb-false n 0 ep in
        absurd (h (omega arith, ltb-false most_blocks n eq, ltb-false longest_salt (length s) er))

module _ (b : List ℕ) (i : ℕ) (t : List ℕ) (n : ℕ) (s r : List ℕ) where
  pub verify-block : length b ≢ block_size → refuse 1 [] ≡ verify_of b i t n s r
  unfolding verify_of
  verify-block a = rw (ne_eqb (length b) block_size a)

  module _ (eb : length b ≡ block_size) where
    pub verify-root : length r ≢ digest_size → refuse 1 [] ≡ verify_of b i t n s r
    unfolding verify_of
    verify-root a = rw (eq-eqb (length b) block_size eb, ne_eqb (length r) digest_size a)

    module _ (er : length r ≡ digest_size) where
      pub verify-range : ¬ (InRange n s) → refuse 2 [] ≡ verify_of b i t n s r
      unfolding verify_of
      verify-range a = rw (eq-eqb (length b) block_size eb, eq-eqb (length r) digest_size er) (range_met n s (refuse 2 []) _ a)

      module _ (range : InRange n s) where
        some : n ≢ 0
        some = omega (arith, range.0)

        pub verify-index : n ≤ i → refuse 2 [] ≡ verify_of b i t n s r
        unfolding verify_of
        verify-index a =
            rw (
              eq-eqb (length b) block_size eb,
              eq-eqb (length r) digest_size er,
              ne_eqb n 0 some,
              le-ltb most_blocks n range.1,
              le-ltb longest_salt (length s) range.2,
              le-leb n i a,
            )

        module _ (ei : i < n) where
          pub verify-tree : length t ≢ tree_length n → refuse 1 [] ≡ verify_of b i t n s r
          unfolding verify_of
          verify-tree a =
              rw (
                eq-eqb (length b) block_size eb,
                eq-eqb (length r) digest_size er,
                ne_eqb n 0 some,
                le-ltb most_blocks n range.1,
                le-ltb longest_salt (length s) range.2,
                lt-leb n i ei,
                ne_eqb (length t) (tree_length n) a,
              )

          pub verify-path : length t ≡ tree_length n
              → compared_of (computed_of s t b (places_of (levels_of n) n i)) (standing_of r t (places_of (levels_of n) n i)) ≡ verify_of b i t n s r
          unfolding verify_of
          verify-path a =
              rw (
                eq-eqb (length b) block_size eb,
                eq-eqb (length r) digest_size er,
                ne_eqb n 0 some,
                le-ltb most_blocks n range.1,
                le-ltb longest_salt (length s) range.2,
                lt-leb n i ei,
                eq-eqb (length t) (tree_length n) a,
              )

module _ (n : ℕ) (s d t : List ℕ) where
  pub build-range : ¬ (InRange n s) → not_built 2 t ≡ build_of n s d t
  unfolding build_of
  build-range a = range_met n s (not_built 2 t) _ a

  module _ (range : InRange n s) where
    filled : n ≢ 0
    filled = omega (arith, range.0)

    pub build-image : length d ≢ n * block_size → not_built 1 t ≡ build_of n s d t
    unfolding build_of
    build-image a =
        rw (ne_eqb n 0 filled, le-ltb most_blocks n range.1, le-ltb longest_salt (length s) range.2, ne_eqb (length d) (n * block_size) a)

    module _ (ed : length d ≡ n * block_size) where
      pub build-tree : length t ≢ tree_length n → not_built 1 t ≡ build_of n s d t
      unfolding build_of
      build-tree a =
          rw (
            ne_eqb n 0 filled,
            le-ltb most_blocks n range.1,
            le-ltb longest_salt (length s) range.2,
            eq-eqb (length d) (n * block_size) ed,
            ne_eqb (length t) (tree_length n) a,
          )

      pub build-made : length t ≡ tree_length n → built_of n s d ≡ build_of n s d t
      unfolding build_of
      build-made a =
          rw (
            ne_eqb n 0 filled,
            le-ltb most_blocks n range.1,
            le-ltb longest_salt (length s) range.2,
            eq-eqb (length d) (n * block_size) ed,
            eq-eqb (length t) (tree_length n) a,
          )

-- What each call leaves, over plain values. A size z, and a number k, is what the code has for the definition's.
use Prim.Native.Nat.{ℕ}
use mathlib.Core.List.{List}
use mathlib.Core.Logic.{◌≢◌}
use mathlib.Core.Path.{◌≡◌, ap, ◌∙◌}
use lib.IntN.{ℤ}
use lib.ListN.{length}
use Rattle.octets.specs.Answer.{Answer, number_in}
use Rattle.digest.specs.Sha256.{digest_size}
use Rattle.tree.specs.Build.{BuildOutcome, build_of}
use Rattle.tree.specs.Verify.{verify_of}
use Rattle.c_numbers.specs.Sizes.{level_size}
use Rattle.c_numbers.specs.Outcome.{wrong_length, refused_with, answering}
use Rattle.c_numbers.proofs.Outcomes.{length-wrong, length-right}
use Rattle.c_tree.specs.HashTree.{refused_build, build_leaves, build_call, level_buffer_of, verify_call}

-- ---- build

module _ (n : ℕ) (s d t r : List ℕ) {z : ℕ} (ez : z ≡ digest_size) where
  pub build-wrong : {k : ℕ} → k ≡ wrong_length → length r ≢ z → refused_build k t r ≡ build_call n s d t r
  unfolding build_call
  build-wrong ek h = ap (λ (k : ℕ). refused_build k t r) ek ∙ length-wrong ez _ _ h

  -- the root digest's buffer is as the outcome o has it
  pub build-leaves : (o : BuildOutcome) {k : ℕ} {r' : List ℕ} → length r ≡ z → o ≡ build_of n s d t → k ≡ number_in o.answer → r' ≡ (answering o.answer r o.root).buffer
      → refused_build k o.tree r' ≡ build_call n s d t r
  unfolding build_call
  build-leaves o fits eo ek er =
      (λ i. record { number = ek i; tree = o.tree; root = er i }) ∙ ap (λ (x : BuildOutcome). build_leaves x r) eo ∙ length-right ez _ _ fits

-- ---- verify

module _ (b : List ℕ) (i : ℕ) (t : List ℕ) (n : ℕ) (s r l : List ℕ) {z : ℕ} (ez : z ≡ level_size) where
  pub verify-wrong : {k : ℕ} → k ≡ wrong_length → length l ≢ z → refused_with k l ≡ verify_call b i t n s r l
  unfolding verify_call
  verify-wrong ek h = ap (λ (k : ℕ). refused_with k l) ek ∙ length-wrong ez _ _ h

  -- the level's buffer is as the answer a has it
  pub verify-leaves : (a : Answer ℤ (Unit {0})) {k : ℕ} {l' : List ℕ} → length l ≡ z → a ≡ verify_of b i t n s r → k ≡ number_in a → l' ≡ level_buffer_of a l
      → refused_with k l' ≡ verify_call b i t n s r l
  unfolding verify_call
  verify-leaves a fits ea ek el =
      (λ j. record {
        number = (ek ∙ ap (λ (x : Answer ℤ (Unit {0})). number_in x) ea) j;
        buffer = (el ∙ ap (λ (x : Answer ℤ (Unit {0})). level_buffer_of x l) ea) j;
      })
      ∙ length-right ez _ _ fits

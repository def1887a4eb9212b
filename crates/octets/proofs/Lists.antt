-- Laws of a test of every number below a bound, and of a number that may be below it.
use Prim.Native.Nat.{ℕ, zero, suc, ◌≤◌, ◌<◌}
use native.Mathlib.Decide.{dec_lt}
use native.Mathlib.Decide.{ℕ_discrete}
use native.Mathlib.Omega.{arith}
use mathlib.Core.Bool.{Bool, true, false, ◌&&◌}
use mathlib.Core.Path.{◌≡◌, refl, sym, ap, ◌∙◌}
use borrow.Author.Tests.{lt-ltb, le-ltb}
use Rattle.std.proofs.Common.{Option, Some, None}
use Rattle.octets.specs.Lists.{all_below, if_below}

pub all-below : (n : ℕ) (f : ℕ → Bool) → ((j : ℕ) → j < n → f j ≡ true) → all_below n f ≡ true
all-below zero f h = refl
all-below (suc n) f h = rw (all-below n f (λ j l. h j (omega arith)), h n (omega arith))

pub below_all : (n : ℕ) (f : ℕ → Bool) → all_below n f ≡ true → (j : ℕ) → j < n → f j ≡ true
below_all zero f e j l = absurd (omega arith)
below_all (suc n) f e j l = go (λ a. below_all n f a j) (all_below n f) refl e (ℕ_discrete j n)
  where
    go : (all_below n f ≡ true → j < n → f j ≡ true) → (b : Bool) → all_below n f ≡ b → (b && f n) ≡ true → Dec (j ≡ n) → f j ≡ true
    go ih true a t (yes q) = rw q t
    go ih true a t (no q) = ih a (omega arith)
    go ih false a t d = absurd (let z : ◌≡◌ {A = ℕ} 0 1 = cc in omega arith)

pub below-some : (n k : ℕ) → k < n → if_below n k ≡ Some k
below-some n k l = rw (lt-ltb k n l)

pub below-none : (n k : ℕ) → n ≤ k → if_below n k ≡ None
below-none n k l = rw (le-ltb k n l)

-- the number in an option, z where there is none
abbrev number_or : ℕ → Option ℕ → ℕ
number_or z None = z
number_or z (Some k) = k

pub some-below : (n k i : ℕ) → if_below n k ≡ Some i → (i ≡ k) × (k < n)
some-below n k i e = go (dec_lt k n)
  where
    go : Dec (k < n) → (i ≡ k) × (k < n)
    go (yes l) = (ap (number_or 0) (sym e ∙ below-some n k l), l)
    go (no l) =
        let both : (z : ℕ) → z ≡ i = λ z. ap (number_or z) (sym (below-none n k (omega arith)) ∙ e) in
        absurd (omega (arith, both 0, both 1))

pub none-below : (n k : ℕ) → if_below n k ≡ None → n ≤ k
none-below n k e = go (dec_lt k n)
  where
    go : Dec (k < n) → n ≤ k
    go (yes l) =
        let both : (z : ℕ) → k ≡ z = λ z. ap (number_or z) (sym (below-some n k l) ∙ e) in
        absurd (omega (arith, both 0, both 1))
    go (no l) = omega arith

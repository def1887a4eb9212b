-- How many digits a number has in decimal.
use Prim.Native.Nat.{ℕ, zero, suc, ◌+◌, ◌-◌, ◌/◌, ◌^◌, ◌≤◌, ◌<◌}
use mathlib.Core.Path.{◌≡◌, refl, sym, ap, ◌∙◌, subst}
use native.Mathlib.Omega.{arith}
use native.Mathlib.Decide.{dec_lt}
use lib.ListN.{length, length-append}
use borrow.Author.Tests.{lt-ltb, le-ltb}
use Rattle.io.specs.Digits.{last_digits, IsDigitCount}
use Rattle.volume_report.specs.Report.{places, decimal}

pub length_digits : (k n : ℕ) → length (last_digits 10 k n) ≡ k
length_digits zero n = refl
length_digits (suc k) n = length-append (last_digits 10 k (n / 10)) _ ∙ rw (length_digits k (n / 10)) (omega arith)

-- the fewest digits that hold n are as many as it has
fewest-places : (most n k : ℕ) → k ≤ suc most → IsDigitCount 10 1 n k → k ≡ places most n
fewest-places zero n k l f = omega (arith, f.0)
fewest-places (suc most) n zero l f = absurd (omega (arith, f.0))
fewest-places (suc most) n (suc zero) l f =
    let small : n < 10 = omega (arith, f.1) in
    rw (lt-ltb n 10 small) refl
fewest-places (suc most) n (suc (suc k)) l f =
    let one_less : (j : ℕ) → suc j - 1 ≡ j = λ j. omega arith in
    let large : 10 ^ suc k ≤ n = subst (λ (j : ℕ). 10 ^ j ≤ n) (one_less (suc k)) (f.2 (omega arith)) in
    let ten : 10 ≤ n = omega (arith, power k, large) in
    let rest : IsDigitCount 10 1 (n / 10) (suc k) = (omega arith, below k f.1, λ q. subst (λ (j : ℕ). 10 ^ j ≤ n / 10) (sym (one_less k)) (above k q large)) in
    rw (le-ltb n 10 ten) (ap suc (fewest-places most (n / 10) (suc k) (omega arith) rest))
  where
    power : (j : ℕ) → 10 ≤ 10 ^ suc j
    power zero = omega arith
    power (suc j) = omega (arith, power j)

    below : (j : ℕ) → n < 10 ^ suc (suc j) → n / 10 < 10 ^ suc j
    below j q = omega arith

    above : (j : ℕ) → 1 < suc j → 10 ^ suc j ≤ n → 10 ^ j ≤ n / 10
    above j q h = omega arith

power-more : (j : ℕ) → 10 ^ 20 ≤ 10 ^ (20 + j)
power-more zero = omega arith
power-more (suc j) =
    let next : 20 + suc j ≡ suc (20 + j) = omega arith in
    subst (λ (k : ℕ). 10 ^ 20 ≤ 10 ^ k) (sym next) (omega (arith, power-more j))

-- a number of 64 bits has at most 20 digits
pub few-digits : (n k : ℕ) → n < 2 ^ 64 → IsDigitCount 10 1 n k → k ≤ 20
few-digits n k small f = go (dec_lt 20 k)
  where
    go : Dec (20 < k) → k ≤ 20
    go (no q) = omega arith
    go (yes q) =
        let split : k - 1 ≡ 20 + (k - 21) = omega arith in
        let large : 10 ^ (20 + (k - 21)) ≤ n = subst (λ (j : ℕ). 10 ^ j ≤ n) split (f.2 (omega arith)) in
        absurd (omega (arith, small, large, power-more (k - 21)))

pub is-decimal : (n k : ℕ) → k ≤ 20 → IsDigitCount 10 1 n k → last_digits 10 k n ≡ decimal n
unfolding decimal
is-decimal n k l f = ap (λ (j : ℕ). last_digits 10 j n) (fewest-places 19 n k l f)

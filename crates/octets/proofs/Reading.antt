-- A number in bytes as the library reads it: `from_le_bytes` has a sum over the eight bytes of a word.
use Prim.Native.Nat.{ℕ, zero, suc, ◌+◌, ◌-◌, ◌*◌, ◌^◌, ◌≤◌, ◌<◌}
use native.Mathlib.Nat.{pow-suc, pow-zero}
use native.Mathlib.Omega.{arith}
use mathlib.Core.List.{List, [], ◌∷◌, ◌++◌}
use mathlib.Core.Path.{◌≡◌, refl, sym, ap, ◌∙◌}
use lib.ListN.{length, take, drop, get_or, replicate, length-append, length-replicate}
use lib.Seq.{take-suc, length-take-le, take_all}
use Rattle.std.specs.Int.{w64, from_le_bytes, sum_through, byte_worth}
use Rattle.octets.specs.Numbers.{value}
use Rattle.octets.proofs.Parts.{drop-replicate}

value-last : (p : List ℕ) (x : ℕ) → value (p ++ (x ∷ [])) ≡ value p + x * 256 ^ length p
value-last [] x = rw pow-zero (omega arith)
value-last (y ∷ p) x = rw (value-last p x, pow-suc 256 (length p)) (omega arith)

value-zeros : (n : ℕ) → value (replicate n 0) ≡ 0
value-zeros zero = refl
value-zeros (suc n) = rw (value-zeros n)

value-front : (p : List ℕ) (n : ℕ) → value (p ++ replicate n 0) ≡ value p
value-front [] n = value-zeros n
value-front (x ∷ p) n = rw (value-front p n)

-- a sum over the first bytes
value-sum : (x : List ℕ) (k : ℕ) → k < length x → sum_through (λ i. byte_worth i (get_or x i 0)) k ≡ value (take (suc k) x)
value-sum [] k h = absurd (omega arith)
value-sum (y ∷ x) zero h = omega arith
value-sum (y ∷ x) (suc k) h =
    let front = take (suc k) (y ∷ x) in
    let last = get_or (y ∷ x) (suc k) 0 in
    let size : length front ≡ suc k = length-take-le (suc k) (y ∷ x) (omega arith) in
    let more = ap value (take-suc (y ∷ x) (suc k) 0 h) ∙ value-last front last ∙ ap (λ (m : ℕ). value front + last * 256 ^ m) size in
    ap (λ (m : ℕ). m + last * 256 ^ suc k) (value-sum (y ∷ x) k (omega arith)) ∙ sym more

-- the first n bytes of a word, in front of zeros
pub value-word : (p : List ℕ) (n : ℕ) → length p ≡ n → n ≤ 8 → from_le_bytes w64 (p ++ drop n (replicate 8 0)) ≡ value p
value-word p n e l =
    let word = p ++ replicate (8 - n) 0 in
    let size : length word ≡ 8 = omega (arith, length-append {A = ℕ}, length-replicate {A = ℕ}) in
    rw (drop-replicate n 8 0 l) (value-sum word 7 (omega arith) ∙ ap value (take_all 8 word (omega arith)) ∙ value-front p (8 - n))

-- Laws of numbers in bytes: lengths, what is read back, and bounds.
use Prim.Native.Nat.{ℕ, zero, suc, ◌+◌, ◌*◌, ◌/◌, ◌%◌, ◌^◌, ◌<◌}
use native.Mathlib.Nat.{pow-suc, pow-succ', pow-zero, div-div-eq-div-mul, div-one}
use native.Mathlib.Omega.{arith}
use mathlib.Core.List.{List, [], ◌∷◌, ◌++◌, reverse, reverse-cons}
use mathlib.Core.Path.{◌≡◌, refl, ap}
use lib.ListN.{length, get_or}
use Rattle.octets.specs.Numbers.{Bytes, le, be, value}

-- ---- lists of bytes, element by element

pub bytes-nil : Bytes []
bytes-nil = record { below = λ i. omega arith }

pub bytes-cons : {b : ℕ} {bs : List ℕ} → b < 256 → Bytes bs → Bytes (b ∷ bs)
bytes-cons {b} {bs} h hs = record { below = go }
  where
    go : (i : ℕ) → get_or (b ∷ bs) i 0 < 256
    go zero = h
    go (suc i) = hs.below i

pub bytes-tail : {b : ℕ} {bs : List ℕ} → Bytes (b ∷ bs) → Bytes bs
bytes-tail h = record { below = λ i. h.below (suc i) }

-- ---- little-endian

pub length-le : (k n : ℕ) → length (le k n) ≡ k
length-le zero n = refl
length-le (suc k) n = ap suc (length-le k (n / 256))

pub bytes_le : (k n : ℕ) → Bytes (le k n)
bytes_le zero n = bytes-nil
bytes_le (suc k) n = bytes-cons (omega arith) (bytes_le k (n / 256))

-- a number that fits k bytes is read back from them
pub value-le : (k n : ℕ) → n < 256 ^ k → value (le k n) ≡ n
value-le zero n h = omega (arith, rw pow-zero at h)
value-le (suc k) n h =
    let h₁ : n < 256 ^ k * 256 = rw pow-suc at h in
    let e : value (le k (n / 256)) ≡ n / 256 = value-le k (n / 256) (omega arith) in
    rw e (omega arith)

-- bytes are those of the number that they write down
pub le-value : {b : List ℕ} → Bytes b → le (length b) (value b) ≡ b
le-value {b = []} h = refl
le-value {b = x ∷ b} h =
    let x-byte : x < 256 = h.below 0 in
    let first : (x + 256 * value b) % 256 ≡ x = omega arith in
    let rest : (x + 256 * value b) / 256 ≡ value b = omega arith in
    rw (first, rest, le-value (bytes-tail h))

pub value-bound : {b : List ℕ} → Bytes b → value b < 256 ^ length b
value-bound {b = []} h = rw pow-zero (omega arith)
value-bound {b = x ∷ b} h = rw pow-suc (omega (arith, h.below 0, value-bound (bytes-tail h)))

-- ---- big-endian

pub length-be : (k n : ℕ) → length (be k n) ≡ k
length-be zero n = refl
length-be (suc k) n = ap suc (length-be k n)

pub bytes-be : (k n : ℕ) → Bytes (be k n)
bytes-be zero n = bytes-nil
bytes-be (suc k) n = bytes-cons (omega arith) (bytes-be k n)

-- its last byte is the least significant
be-last : (k n : ℕ) → be (suc k) n ≡ be k (n / 256) ++ (n % 256 ∷ [])
be-last zero n = rw (pow-zero, div-one)
be-last (suc k) n = rw (be-last k n, pow-succ', ← div-div-eq-div-mul n 256 (256 ^ k))

-- the same bytes as little-endian, in reverse order
pub be-reverse : (k n : ℕ) → be k n ≡ reverse (le k n)
be-reverse zero n = refl
be-reverse (suc k) n = rw (be-last k n, be-reverse k (n / 256), reverse-cons)

-- Operations on 32-bit words, and the six functions of SHA-256, R10: FIPS 180-4, sections 3.2 and 4.1.2, in their order and under their names.
-- A word is a number below 2 ^ 32.
--
-- x ⊞ y                    : the sum modulo 2 ^ 32 (3.2, operation 2)
-- shr n x                  : SHR, the right shift by n bits (3.2, 3)
-- shl n x                  : x << n, the left shift by n bits in a word (2.2.2)
-- rotr n x                 : ROTR, the rotation right by n bits: the n low bits become the n high ones (3.2, 4). FIPS 180-4 and the code write it by
--                            two shifts and an or; `ShiftsRotate` of Theorems has the two equal at every distance
-- complement x             : every bit inverted (3.2, 1)
-- Ch, Maj, Σ₀, Σ₁, σ₀, σ₁  : formulas (4.2) to (4.7)
use Rattle.std.specs.Prelude.{ℕ, ◌+◌, ◌-◌, ◌*◌, ◌/◌, ◌%◌, ◌^◌, bit_and, bit_xor}

infixl 6 ◌⊞◌
abbrev pub ◌⊞◌ : ℕ → ℕ → ℕ
◌⊞◌ x y = (x + y) % 2 ^ 32

abbrev pub shr : ℕ → ℕ → ℕ
shr n x = x / 2 ^ n

abbrev pub shl : ℕ → ℕ → ℕ
shl n x = (x * 2 ^ n) % 2 ^ 32

unfoldable pub rotr : ℕ → ℕ → ℕ
rotr n x = x % 2 ^ n * 2 ^ (32 - n) + x / 2 ^ n

abbrev pub complement : ℕ → ℕ
complement x = 2 ^ 32 - 1 - x

unfoldable pub Ch : ℕ → ℕ → ℕ → ℕ
Ch x y z = bit_xor (bit_and x y) (bit_and (complement x) z)

unfoldable pub Maj : ℕ → ℕ → ℕ → ℕ
Maj x y z = bit_xor (bit_xor (bit_and x y) (bit_and x z)) (bit_and y z)

unfoldable pub Σ₀ : ℕ → ℕ
Σ₀ x = bit_xor (bit_xor (rotr 2 x) (rotr 13 x)) (rotr 22 x)

unfoldable pub Σ₁ : ℕ → ℕ
Σ₁ x = bit_xor (bit_xor (rotr 6 x) (rotr 11 x)) (rotr 25 x)

unfoldable pub σ₀ : ℕ → ℕ
σ₀ x = bit_xor (bit_xor (rotr 7 x) (rotr 18 x)) (shr 3 x)

unfoldable pub σ₁ : ℕ → ℕ
σ₁ x = bit_xor (bit_xor (rotr 17 x) (rotr 19 x)) (shr 10 x)

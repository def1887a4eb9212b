-- The or of two shifts is the rotation, at every distance: FIPS 180-4, section 3.2, operation 4.
use Rattle.std.proofs.Common.{◌≡◌, ℕ, ◌+◌, ◌-◌, ◌*◌, ◌/◌, ◌%◌, ◌^◌, ◌<◌, sym, ◌∙◌, subst, add-zero, add_comm, arith, shr_lt}
use native.Mathlib.Nat.{mul-mod_left}
use lib.Pow.{mod-pow-add, shl-shr}
use lib.Bits.{bit_or, or_shifted_r}
use Rattle.compression.specs.Words.{rotr}
use Rattle.compression.specs.Theorems.{ShiftsRotate}

-- a left shift by k keeps the low j bits of a word of j + k bits
kept : (j k x : ℕ) → (x * 2 ^ k) % 2 ^ (j + k) ≡ x % 2 ^ j * 2 ^ k
kept j k x = mod-pow-add (x * 2 ^ k) j k ∙ rw (shl-shr, mul-mod_left, add-zero)

-- the rotation by j bits of a word of j + k bits
by_width : (j k x : ℕ) → x < 2 ^ (j + k) → bit_or (x / 2 ^ j) ((x * 2 ^ k) % 2 ^ (j + k)) ≡ x % 2 ^ j * 2 ^ k + x / 2 ^ j
by_width j k x h = rw kept (or_shifted_r (x % 2 ^ j) k (x / 2 ^ j) (shr_lt k j (rw add_comm at h)))

pub shifts-rotate : ShiftsRotate
unfolding rotr
shifts-rotate n x l h =
    let e : n + (32 - n) ≡ 32 = omega arith in
    subst (λ (w : ℕ). bit_or (x / 2 ^ n) ((x * 2 ^ (32 - n)) % 2 ^ w) ≡ x % 2 ^ n * 2 ^ (32 - n) + x / 2 ^ n) e
    (by_width n (32 - n) x (subst (λ (w : ℕ). x < 2 ^ w) (sym e) h))

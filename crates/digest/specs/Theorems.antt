-- What is proved beyond each call's own contract; the proofs are in proofs/Theorems.
use Rattle.std.specs.Prelude.{ℕ, ◌+◌, ◌*◌, ◌%◌, ◌≤◌, ◌≡◌, List, length, Result}
use Rattle.digest.specs.declared.State.{State}
use Rattle.digest.specs.declared.TooLong.{TooLong}
use Rattle.digest.specs.Pieces.{updated, closed}
use Rattle.digest.specs.Padding.{zero_bytes_of, padding_of}

-- Number and values tell the answers apart: a contract that states them states what the code returned, error or value (R100).
abbrev pub AnswersDiffer : Type 0
AnswersDiffer = ((s : State) (r q : Result State TooLong) → updated s r ≡ updated s q → r ≡ q)
    × ((r q : Result (List ℕ) TooLong) → closed r ≡ closed q → r ≡ q)

-- The padding is that of FIPS 180-4, section 5.1.1 (R10). Behind a message of l bits comes a one bit, and k zero bits, "where k is the smallest, non-negative
-- solution to the equation l + 1 + k ≡ 448 mod 512". Of a message of c bytes l is 8 c, and k the seven zero bits of the byte 0x80 and the zero bytes.

abbrev pub zero_bits_of : ℕ → ℕ
zero_bits_of c = 7 + 8 * zero_bytes_of c

abbrev pub ZeroBitsSolve : Type 0
ZeroBitsSolve = (c : ℕ) → (8 * c + 1 + zero_bits_of c) % 512 ≡ 448

abbrev pub ZeroBitsLeast : Type 0
ZeroBitsLeast = (c k : ℕ) → (8 * c + 1 + k) % 512 ≡ 448 → zero_bits_of c ≤ k

-- so a padded message is whole blocks
abbrev pub PaddedWhole : Type 0
PaddedWhole = (c : ℕ) → (c + length (padding_of c)) % 64 ≡ 0

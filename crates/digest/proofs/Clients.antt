-- Uses of the top statements, each at an instance that only the whole statement gives: so that a statement which is made weaker, and is then still
-- proved, is refused here.
use Prim.Native.Nat.{ℕ, ◌+◌, ◌-◌, ◌*◌, ◌%◌, ◌^◌, ◌≤◌}
use mathlib.Core.List.{List, [], ◌∷◌, flatten}
use mathlib.Core.Path.{◌≡◌}
use native.Mathlib.Omega.{arith}
use lib.ListN.{length}
use Rattle.octets.specs.Answer.{taken}
use Rattle.digest.specs.declared.State.{State}
use Rattle.digest.specs.Padding.{padding_of}
use Rattle.digest.specs.Pieces.{fresh_of, update_of, refused_piece_of, finish_of, digest_of}
use Rattle.digest.specs.Sha256.{sha256}
use Rattle.digest.specs.Sha256.Promise.{length-sha256, update-refused, add_all, closing, digest-taken}
use Rattle.digest.specs.Theorems.{zero_bits_of}
use Rattle.digest.proofs.Theorems.{zero-bits-solve, zero-bits-least, padded-whole}

-- a message of the most bytes, in pieces of any lengths, and whole
longest-closes : (ps : List (List ℕ)) → length (flatten ps) ≡ 2 ^ 61 - 1 → finish_of (add_all fresh_of ps) ≡ record { answer = taken tt; digest = sha256 (flatten ps) }
longest-closes ps e = closing ps (omega arith)

longest-taken : (m : List ℕ) → length m ≡ 2 ^ 61 - 1 → digest_of m ≡ record { answer = taken tt; digest = sha256 m }
longest-taken m e = digest-taken m (omega arith)

-- no piece, and one byte more than the most
none-closes : finish_of (add_all fresh_of []) ≡ record { answer = taken tt; digest = sha256 (flatten []) }
unfolding flatten
none-closes = closing [] (omega arith)

one-too-many : (s : State) (b : ℕ) → s.count ≡ 2 ^ 61 - 1 → update_of s (b ∷ []) ≡ refused_piece_of s
one-too-many s b e = update-refused s (b ∷ []) (omega arith)

sized : (m : List ℕ) → length (sha256 m) ≡ 32
sized = length-sha256

-- the padding of any message: 55 bytes leave room for the length, 56 do not
solves : (c : ℕ) → (8 * c + 1 + zero_bits_of c) % 512 ≡ 448
solves = zero-bits-solve

least : (k : ℕ) → (8 * 56 + 1 + k) % 512 ≡ 448 → zero_bits_of 56 ≤ k
least k e = zero-bits-least 56 k e

whole : (c : ℕ) → (c + length (padding_of c)) % 64 ≡ 0
whole = padded-whole

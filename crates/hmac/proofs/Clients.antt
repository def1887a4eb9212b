-- Uses of the top statements, each at an instance that only the whole statement gives: so that a statement which is made weaker, and is then still
-- proved, is refused here.
use Prim.Native.Nat.{ℕ}
use mathlib.Core.List.{List, []}
use mathlib.Core.Path.{◌≡◌}
use lib.ListN.{length, replicate}
use Rattle.std.specs.Prelude.{Result, Err}
use Rattle.octets.specs.Answer.{refuse}
use Rattle.hmac.specs.declared.Refusal as code
use Rattle.hmac.specs.declared.Refusal.TheVariants.{KeyLength, TooLong}
use Rattle.hmac.specs.Call.{called}
use Rattle.hmac.specs.Hmac.{block_of, hmac}
use Rattle.hmac.specs.Kept.{key_of, mac_of}
use Rattle.hmac.proofs.Theorems.{answers-differ, block-length, mac-length, kept-gives-hmac, kept-length}

-- keys on both sides of a block's length, and those that no call takes
none_kept : (m : List ℕ) → mac_of (key_of []) m ≡ hmac [] m
none_kept = kept-gives-hmac []

block-kept : (m : List ℕ) → mac_of (key_of (replicate 64 255)) m ≡ hmac (replicate 64 255) m
block-kept = kept-gives-hmac (replicate 64 255)

long_kept : (m : List ℕ) → mac_of (key_of (replicate 65 0)) m ≡ hmac (replicate 65 0) m
long_kept = kept-gives-hmac (replicate 65 0)

past-kept : mac_of (key_of (replicate 300 170)) [] ≡ hmac (replicate 300 170) []
past-kept = kept-gives-hmac (replicate 300 170) []

none-block : length (block_of []) ≡ 64
none-block = block-length []

past-block : (k : List ℕ) → length k ≡ 300 → length (block_of k) ≡ 64
past-block k e = block-length k

sized : (k m : List ℕ) → length (hmac k m) ≡ 32
sized = mac-length

kept-sized : (k m : List ℕ) → length (mac_of (key_of k) m) ≡ 32
kept-sized = kept-length

-- the two refusals are told apart
refusals-differ : (r : Result (List ℕ) code.Refusal) → called r ≡ record { answer = refuse 2 []; mac = replicate 32 0 } → r ≡ Err KeyLength
refusals-differ r e = answers-differ r (Err KeyLength) e

limit-differs : (r : Result (List ℕ) code.Refusal) → called r ≡ record { answer = refuse 1 []; mac = replicate 32 0 } → r ≡ Err TooLong
limit-differs r e = answers-differ r (Err TooLong) e

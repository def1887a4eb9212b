-- The key as one block, and a block xored, over plain lists.
use Prim.Native.Nat.{ℕ, ◌+◌, ◌≤◌, ◌<◌}
use mathlib.Core.Path.{◌≡◌, ap, ◌∙◌}
use mathlib.Core.List.{List, ◌++◌, map}
use native.Mathlib.Decide.{dec_le}
use native.Mathlib.Omega.{arith}
use lib.Bits.{bit_xor}
use lib.ListN.{length, get_or, take, drop, set, replicate, length-append, length-drop, length-replicate, length-map}
use lib.Seq.{length-take-le}
use Rattle.std.proofs.lemmas.List.{get_or_default}
use Rattle.std.proofs.lemmas.List.Edits.{map_over_more}
use borrow.Author.Tests.{le-ltb, lt-ltb}
use Rattle.octets.proofs.Parts.{drop-replicate}
use Rattle.digest.specs.Sha256.{sha256}
use Rattle.digest.specs.Sha256.Promise.{length-sha256}
use Rattle.hmac.specs.Hmac.{block_size, shortened, block_of, padded}

-- ---- the key as one block

shortened-short : (k : List ℕ) → length k ≤ block_size → shortened k ≡ k
shortened-short k h = rw (le-ltb block_size (length k) h)

shortened-long : (k : List ℕ) → block_size < length k → shortened k ≡ sha256 k
shortened-long k h = rw (lt-ltb block_size (length k) h)

length-shortened : (k : List ℕ) → length (shortened k) ≤ block_size
length-shortened k = side (dec_le (length k) block_size)
  where
    side : Dec (length k ≤ block_size) → length (shortened k) ≤ block_size
    side (yes h) = rw (shortened-short k h) h
    side (no h) = rw (shortened-long k (omega arith), length-sha256 k) (omega arith)

pub length-block : (k : List ℕ) → length (block_of k) ≡ block_size
unfolding block_of
length-block k = rw (length-append, length-replicate) (omega (arith, length-shortened k))

pub length-padded : (x : ℕ) (k : List ℕ) → length (padded x k) ≡ block_size
length-padded x k = length-map (block_of k) (λ b. bit_xor b x) ∙ length-block k

-- a key as it is, and the digest of a longer one, copied into zeros
pub short-key : (k : List ℕ) → length k ≤ block_size → k ++ drop (length k) (replicate block_size 0) ≡ block_of k
unfolding block_of
short-key k h = rw (shortened-short k h, drop-replicate (length k) block_size 0 h)

pub long-key : (k d : List ℕ) → block_size < length k → d ≡ sha256 k → d ++ drop 32 (replicate block_size 0) ≡ block_of k
unfolding block_of
long-key k d past e =
    let size : length (sha256 k) ≡ 32 = length-sha256 k in
    rw (e, shortened-long k past, size)

-- ---- a block xored

-- a turn of the loop over its bytes
pub xor-turn : (f : ℕ → ℕ) (b l : List ℕ) (i : ℕ) → i < length b → l ≡ map f (take i b) ++ drop i b → set l i (f (get_or l i 0)) ≡ map f (take (i + 1) b) ++ drop (i + 1) b
xor-turn f b l i h e =
    let size : length l ≡ length b = ap length e ∙ simp (length-append, length-map, length-drop) (omega (arith, length-take-le i b (omega arith))) in
    map_over_more f b l i (get_or l i 0) h e (get_or_default l i 0 (get_or l i 0) (omega arith))

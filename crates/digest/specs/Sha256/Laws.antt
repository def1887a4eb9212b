-- How hashing goes on from a state: blocks after blocks, and pieces after pieces. What Promise is proved from.
use Rattle.std.specs.Prelude.{ℕ, zero, suc, ◌+◌, ◌-◌, ◌*◌, ◌/◌, ◌%◌, ◌≤◌, ◌≡◌, refl, List, [], ◌∷◌, ◌++◌, take, drop, replicate}
use Rattle.std.proofs.Common.{add-zero, add-suc, arith, sym, ◌∙◌, append_assoc, drop-drop, length-take-le}
use Rattle.std.proofs.Math.Path.{ap}
use Rattle.std.proofs.Math.ListN.{length, length-append, length-drop}
use Rattle.std.proofs.Math.Seq.{drop-append-le, take_at}
use Rattle.octets.specs.Numbers.{Bytes, be}
use Rattle.octets.proofs.Numbers.{length-be, bytes-be, bytes-nil}
use Rattle.octets.proofs.Parts.{part-append-left, bytes-append}
use Rattle.digest.specs.declared.State.{State}
use Rattle.compression.specs.Compression.{added_of, compress_of, hash_of}
use Rattle.digest.specs.Padding.{bytes_of}
use Rattle.compression.specs.Constants.{initial_hash}
use Rattle.digest.specs.Pieces.{fresh_of, held_of, whole_of, filled_of, absorb_of}

-- ---- lengths and bytes

pub length-hash : (n : ℕ) (h m : List ℕ) → length h ≡ 8 → length (hash_of n h m) ≡ 8
unfolding hash_of compress_of added_of
length-hash zero h m e = e
length-hash (suc n) h m e = refl

pub length-bytes_of : (h : List ℕ) → length (bytes_of h) ≡ 4 * length h
unfolding bytes_of
length-bytes_of [] = refl
length-bytes_of (w ∷ h) =
    let front : length (be 4 w) ≡ 4 = length-be 4 w in
    rw (length-append, front, length-bytes_of h) (omega arith)

pub bytes-bytes_of : (h : List ℕ) → Bytes (bytes_of h)
unfolding bytes_of
bytes-bytes_of [] = bytes-nil
bytes-bytes_of (w ∷ h) = search (bytes-append, bytes-be 4 w, bytes-bytes_of h)

-- ---- blocks

-- what stands behind the blocks does not matter
hash-front : (k : ℕ) (h m q : List ℕ) → 64 * k ≤ length m → hash_of k h (m ++ q) ≡ hash_of k h m
unfolding hash_of
hash-front zero h m q l = refl
hash-front (suc k) h m q l = rw (hash-front k h m q (omega arith), part-append-left m q (64 * k) 64 (omega arith))

-- blocks after blocks
hash-on : (k j : ℕ) (h m : List ℕ) → hash_of (k + j) h m ≡ hash_of j (hash_of k h m) (drop (64 * k) m)
unfolding hash_of
hash-on k zero h m = rw add-zero
hash-on k (suc j) h m =
    let e : 64 * (k + j) ≡ 64 * k + 64 * j = omega arith in
    rw (add-suc, hash-on k j h m, e, drop-drop)

-- ---- pieces

module _ (s : State) (p q : List ℕ) (full : length s.tail ≡ 64) where
  -- the bytes that are hashed once p is there, and what is left of them
  held : List ℕ
  held = held_of s ++ p

  left : List ℕ
  left = drop (whole_of held) held

  length-held : length held ≡ s.count % 64 + length p
  unfolding held
  length-held = length-append (held_of s) p ∙ ap (λ (n : ℕ). n + length p) (length-take-le (s.count % 64) s.tail (omega arith))

  length-left : length left ≡ (s.count + length p) % 64
  unfolding left
  length-left = rw length-drop (omega (arith, length-held))

  -- the tail gives back what was left
  kept : take ((s.count + length p) % 64) (filled_of left) ≡ left
  unfolding filled_of
  kept = take_at left (replicate (64 - length left) 0) ((s.count + length p) % 64) length-left

  blocks-both : length (held ++ q) / 64 ≡ length held / 64 + length (left ++ q) / 64
  blocks-both = rw (length-append, length-append) (omega (arith, length-held, length-left))

  behind : drop (whole_of held) (held ++ q) ≡ left ++ q
  unfolding left
  behind = drop-append-le (whole_of held) held q (omega arith)

  hash-both : hash_of (length (left ++ q) / 64) (hash_of (length held / 64) s.words held) (left ++ q) ≡ hash_of (length (held ++ q) / 64) s.words (held ++ q)
  hash-both =
      let e : 64 * (length held / 64) ≡ length held / 64 * 64 = omega arith in
      sym
      (rw (
        blocks-both,
        hash-on (length held / 64) (length (left ++ q) / 64) s.words (held ++ q),
        e,
        behind,
        hash-front (length held / 64) s.words held q (omega arith),
      ))

  tail-both : drop (whole_of (left ++ q)) (left ++ q) ≡ drop (whole_of (held ++ q)) (held ++ q)
  tail-both =
      let e : (length held / 64 + length (left ++ q) / 64) * 64 ≡ whole_of held + whole_of (left ++ q) = omega arith in
      sym (rw (blocks-both, e, ← drop-drop, behind))

  pub absorb-append : absorb_of (absorb_of s p) q ≡ absorb_of s (p ++ q)
  unfolding absorb_of held left
  absorb-append =
      let c : s.count + length p + length q ≡ s.count + length (p ++ q) = rw length-append (omega arith) in
      rw (kept, hash-both, tail-both, c, append_assoc)

pub words-absorb : (m : List ℕ) → (absorb_of fresh_of m).words ≡ hash_of (length m / 64) initial_hash m
unfolding absorb_of
words-absorb m = refl

pub fresh-holds-nothing : fresh_of ≡ absorb_of fresh_of []
unfolding absorb_of hash_of filled_of
fresh-holds-nothing = refl

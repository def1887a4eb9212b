-- What the functions of pieces.rt leave, over plain lists: a block put together, a piece that is kept whole, a piece that fills a block.
use Prim.Native.Nat.{ℕ, zero, suc, ◌+◌, ◌-◌, ◌*◌, ◌/◌, ◌%◌, ◌≤◌, ◌<◌}
use native.Mathlib.Numerals.{add-one}
use native.Mathlib.Omega.{arith}
use mathlib.Core.Path.{◌≡◌, sym, ap, ◌∙◌}
use mathlib.Core.List.{List, ◌++◌, append_assoc, append-nil}
use lib.ListN.{length, take, drop, replicate, length-append, length-drop, take-append-drop}
use lib.Seq.{take_all, take_at, drop-append-add, length-take-le}
use borrow.Rule.Slice.PartMut.{put_mid}
use Rattle.std.proofs.lemmas.List.{drop_at}
use Rattle.std.proofs.Common.{drop-drop}
use Rattle.octets.specs.Parts.{part}
use Rattle.octets.proofs.Parts.{drop-replicate}
use Rattle.digest.specs.declared.State.{State}
use Rattle.compression.specs.Compression.{compress_of, hash_of}
use Rattle.digest.specs.Pieces.{held_of, filled_of, absorb_of}

-- ---- blocks

-- a turn of the loop over the blocks: i of them are hashed, the next is c, and s is left behind it
module _ (i : ℕ) (h₀ h m r c s x : List ℕ) (er : r ≡ drop (64 * i) m) (e : r ≡ c ++ s) (size : length c ≡ 64) where
  pub rest-turn : s ≡ drop (64 * (i + 1)) m
  rest-turn =
      let n : 64 * (i + 1) ≡ 64 * i + 64 = omega arith in
      let behind : drop 64 r ≡ s = ap (drop 64) e ∙ drop_at c s 64 size in
      rw (n, ← drop-drop, ← er) (sym behind)

  pub hash-turn : h ≡ hash_of i h₀ m → x ≡ compress_of h c → x ≡ hash_of (i + 1) h₀ m
  unfolding hash_of
  hash-turn eh ex =
      let block : c ≡ part m (64 * i) 64 = sym (ap (take 64) (sym er ∙ e) ∙ take_at c s 64 size) in
      rw (add-one, ← eh, ← block) ex

-- a first block by itself
hash-first : (n : ℕ) (h b q : List ℕ) → length b ≡ 64 → hash_of (suc n) h (b ++ q) ≡ hash_of n (compress_of h b) q
unfolding hash_of
hash-first zero h b q e = ap (compress_of h) (take_at b q 64 e)
hash-first (suc n) h b q e =
    let a : 64 * suc n ≡ length b + 64 * n = omega arith in
    rw (hash-first n h b q e, a, drop-append-add)

-- a full block has no zeros put behind it
full : (l : List ℕ) → length l ≡ 64 → filled_of l ≡ l
unfolding filled_of
full l e = rw e (append-nil l)

-- two copies into zeros: the first n bytes of t, then p
pub fills : (n : ℕ) (t p a b : List ℕ) → length t ≡ 64 → n + length p ≤ 64 → a ≡ take n t → b ≡ p
    → put_mid n (n + length p - n) (a ++ drop n (replicate 64 0)) b ≡ filled_of (take n t ++ p)
unfolding filled_of
fills n t p a b e l ea eb =
    let front : length (take n t) ≡ n = length-take-le n t (omega arith) in
    let k : n + length p - n ≡ length p = omega arith in
    let size : length (take n t ++ p) ≡ n + length p = length-append (take n t) p ∙ ap (λ (k : ℕ). k + length p) front in
    let zeros : drop (length p) (drop n (replicate {A = ℕ} 64 0)) ≡ replicate (64 - (n + length p)) 0 =
    drop-drop (length p) n (replicate {A = ℕ} 64 0) ∙ drop-replicate (n + length p) 64 0 l in
    rw (ea, eb, k, take_at (take n t) (drop n (replicate 64 0)) n front, drop_at (take n t) (drop n (replicate 64 0)) n front, zeros, size)
    (sym (append_assoc (take n t) p (replicate (64 - (n + length p)) 0)))

-- ---- a piece

-- one that does not fill the block
pub short : (s : State) (p t : List ℕ) → length s.tail ≡ 64 → length p < 64 - s.count % 64 → t ≡ filled_of (held_of s ++ p)
    → record { words = s.words; tail = t; count = s.count + length p } ≡ absorb_of s p
unfolding absorb_of hash_of
short s p t e l et =
    let n : length (held_of s) ≡ s.count % 64 = length-take-le (s.count % 64) s.tail (omega arith) in
    let z : length (held_of s ++ p) / 64 ≡ 0 = simp (length-append, n) (omega arith) in
    rw (z, et)

-- one that fills it: the first block b, the rest q of the piece, and what is left of q
module _ (s : State) (p b q : List ℕ) (e : length s.tail ≡ 64) (l : 64 - s.count % 64 ≤ length p)
    (eb : b ≡ filled_of (held_of s ++ take (64 - s.count % 64) p)) (eq : q ≡ part p (64 - s.count % 64) (length p - (64 - s.count % 64))) where
  front : length (held_of s) ≡ s.count % 64
  front = length-take-le (s.count % 64) s.tail (omega arith)

  room : length (take (64 - s.count % 64) p) ≡ 64 - s.count % 64
  room = length-take-le (64 - s.count % 64) p l

  first : b ≡ held_of s ++ take (64 - s.count % 64) p
  first = eb ∙ full _ (simp (length-append, front, room) (omega arith))

  rest : q ≡ drop (64 - s.count % 64) p
  rest = eq ∙ take_all (length p - (64 - s.count % 64)) (drop (64 - s.count % 64) p) (simp length-drop (omega arith))

  held : held_of s ++ p ≡ b ++ q
  held = rw (first, rest, append_assoc, take-append-drop)

  block : length b ≡ 64
  block = rw first (simp (length-append, front, room) (omega arith))

  blocks : length (b ++ q) / 64 ≡ suc (length q / 64)
  blocks = simp (length-append, block) (omega arith)

  left : drop (suc (length q / 64) * 64) (b ++ q) ≡ drop (length q / 64 * 64) q
  left =
      let a : suc (length q / 64) * 64 ≡ length b + length q / 64 * 64 = omega (arith, block) in
      rw (a, drop-append-add)

  pub long : (g k r t : List ℕ) → g ≡ compress_of s.words b → k ≡ hash_of (length q / 64) g q
      → r ≡ part q (length q / 64 * 64) (length q - length q / 64 * 64) → t ≡ filled_of (take 0 s.tail ++ r)
      → record { words = k; tail = t; count = s.count + length p } ≡ absorb_of s p
  unfolding absorb_of
  long g k r t eg ek er et =
      let all : r ≡ drop (length q / 64 * 64) q = er ∙ take_all (length q - length q / 64 * 64) (drop (length q / 64 * 64) q) (simp length-drop (omega arith)) in
      rw (held, blocks, left, hash-first (length q / 64) s.words b q block, et, ek, eg, all)

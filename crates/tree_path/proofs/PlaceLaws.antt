-- Laws of the places: how many levels and hash blocks there are at most, one turn of each loop that counts them, that each place of a path lies in the tree,
-- and the length of a tree.
use Prim.Native.Nat.{ℕ, zero, suc, ◌+◌, ◌-◌, ◌*◌, ◌/◌, ◌^◌, ◌≤◌, ◌<◌}
use native.Mathlib.Decide.{dec_lt}
use native.Mathlib.Nat.{pow-suc}
use native.Mathlib.Numerals.{add-one}
use native.Mathlib.Omega.{arith}
use mathlib.Core.List.{List, [], ◌∷◌, ◌++◌, append-nil}
use mathlib.Core.Logic.{◌≢◌, ◌⊎◌, inl, inr, ⊎_elim}
use mathlib.Core.Path.{◌≡◌, refl, sym, ap, ◌∙◌}
use lib.ListN.{length, get_or, take, set}
use lib.Seq.{take-suc-set, take_at, append_snoc, get_or-take}
use borrow.Author.Tests.{eq-eqb, ne_eqb, lt-ltb, le-ltb}
use Rattle.digest.specs.Sha256.{digest_size}
use Rattle.tree_path.specs.Places.{block_size, digests_per_block, most_blocks, most_levels, parents_of, levels_above, levels_of, hash_blocks_of, first_block_of, digest_at, places_of, tree_length, length_of}

-- one of two orders holds
pub below_or : (a b : ℕ) → (a < b) ⊎ (b ≤ a)
below_or a b = go (dec_lt a b)
  where
    go : Dec (a < b) → (a < b) ⊎ (b ≤ a)
    go (yes h) = inl h
    go (no h) = inr (omega arith)

-- ---- levels

none_above : (f m : ℕ) → m ≤ 1 → levels_above f m ≡ 0
unfolding levels_above
none_above zero m h = refl
none_above (suc f) m h = rw (le-ltb 1 m h)

one-above : (f m : ℕ) → 1 < m → levels_above (suc f) m ≡ suc (levels_above f (parents_of m))
unfolding levels_above
one-above f m h = rw (lt-ltb 1 m h)

-- the bound on the search does not matter
any-bound : (f g m : ℕ) → m ≤ suc f → m ≤ suc g → levels_above f m ≡ levels_above g m
any-bound zero g m a b = rw (none_above zero m a, none_above g m a)
any-bound (suc f) zero m a b = rw (none_above (suc f) m b, none_above zero m b)
any-bound (suc f) (suc g) m a b =
    ⊎_elim
    (λ h. rw (one-above f m h, one-above g m h) (ap suc (any-bound f g (parents_of m) (omega arith) (omega arith))))
    (λ h. rw (none_above (suc f) m h, none_above (suc g) m h))
    (below_or 1 m)

next-above : (f m : ℕ) → 1 < m → m ≤ f → levels_above f m ≡ suc (levels_above f (parents_of m))
next-above zero m h l = absurd (omega arith)
next-above (suc f) m h l = one-above f m h ∙ ap suc (any-bound f (suc f) (parents_of m) (omega arith) (omega arith))

-- the blocks in the highest of h levels above m blocks; the m blocks themselves where h is 0
unfoldable pub top_of : ℕ → ℕ → ℕ
top_of zero m = m
top_of (suc h) m = top_of h (parents_of m)

-- the levels that are counted lead to one block
above-top : (f m : ℕ) → 0 < m → m ≤ suc f → top_of (levels_above f m) m ≡ 1
unfolding top_of
above-top zero m p l = rw (none_above zero m l) (omega arith)
above-top (suc f) m p l =
    ⊎_elim
    (λ h. rw (one-above f m h) (above-top f (parents_of m) (omega arith) (omega arith)))
    (λ h. rw (none_above (suc f) m h) (omega arith))
    (below_or 1 m)

pub levels-top : (n : ℕ) → 0 < n → top_of (levels_of n) n ≡ 1
unfolding top_of levels_of
levels-top n p = above-top n n p (omega arith)

-- only one block has no level above it
pub levels-none : (n : ℕ) → 0 < n → levels_of n ≡ 0 → n ≡ 1
unfolding top_of
levels-none n p e = rw e at (levels-top n p)

-- from two blocks on there is a level of their digests, and what leads from that to one block
pub levels-several : (n : ℕ) → 1 < n → levels_of n ≡ suc (levels_above n (parents_of n))
unfolding levels_of
levels-several n p = next-above n n p (omega arith)

-- and that is all up to the digests that a hash block holds; up to their square, one level more
pub levels-one : (n : ℕ) → 1 < n → n ≤ digests_per_block → levels_of n ≡ 1
levels-one n p l = levels-several n p ∙ ap suc (none_above n (parents_of n) (omega arith))

pub levels-two : (n : ℕ) → digests_per_block < n → n ≤ most_blocks → levels_of n ≡ 2
levels-two n p l =
    levels-several n (omega arith)
    ∙ ap suc (next-above n (parents_of n) (omega arith) (omega arith) ∙ ap suc (none_above n (parents_of (parents_of n)) (omega arith)))

-- k levels are enough for a power k of blocks
few-above : (k f m : ℕ) → m ≤ digests_per_block ^ k → levels_above f m ≤ k
unfolding levels_above
few-above zero f m l = omega (arith, none_above f m l)
few-above (suc k) zero m l = omega arith
few-above (suc k) (suc f) m l =
    ⊎_elim
    (λ h. rw (one-above f m h) (omega (arith, few-above k f (parents_of m) (omega (arith, rw (pow-suc digests_per_block k) at l)))))
    (λ h. rw (none_above (suc f) m h) (omega arith))
    (below_or 1 m)

pub levels-few : (n : ℕ) → n ≤ most_blocks → levels_of n ≤ most_levels
unfolding levels_of
levels-few n l = few-above most_levels n n l

-- ---- the loop that counts levels: h of them are passed, and m blocks are reached

pub levels-start : (n : ℕ) → levels_of n ≡ 0 + levels_above n n
unfolding levels_of
levels-start n = omega arith

pub levels-turn : (n m k h : ℕ) → 1 < m → m ≤ n → k ≡ parents_of m → levels_of n ≡ h + levels_above n m → levels_of n ≡ (h + 1) + levels_above n k
levels-turn n m k h l b e i = rw e (omega (arith, next-above n m l b))

pub levels-end : (n m h : ℕ) → m ≤ 1 → levels_of n ≡ h + levels_above n m → h ≡ levels_of n
levels-end n m h l i = omega (arith, none_above n m l)

-- ---- hash blocks

-- no level has more blocks than stand below it
pub blocks-few : (h m : ℕ) → h ≤ most_levels → m ≤ most_blocks → hash_blocks_of h m ≤ most_levels * most_blocks
unfolding hash_blocks_of
blocks-few h m k l = omega (arith, few h m l)
  where
    few : (h m : ℕ) → m ≤ most_blocks → hash_blocks_of h m ≤ h * most_blocks
    few zero m l = omega arith
    few (suc h) m l = omega (arith, few h (parents_of m) (omega arith))

-- the loop that counts them: j of h levels are counted, and below blocks are reached
pub blocks-start : (h m : ℕ) → hash_blocks_of h m ≡ hash_blocks_of (h - 0) m + 0
blocks-start h m =
    let z : h - 0 ≡ h = omega arith in
    rw z (omega arith)

pub blocks-turn : (h j below k all x : ℕ) → j < h → k ≡ parents_of below → x ≡ hash_blocks_of (h - j) below + all → x ≡ hash_blocks_of (h - (j + 1)) k + (all + k)
unfolding hash_blocks_of
blocks-turn h j below k all x l e i =
    let o : h - j ≡ suc (h - (j + 1)) = omega arith in
    (rw o at i) ∙ rw e (omega arith)

pub blocks_end : (h j below all x : ℕ) → h ≤ j → x ≡ hash_blocks_of (h - j) below + all → all ≡ x
unfolding hash_blocks_of
blocks_end h j below all x l i =
    let z : h - j ≡ 0 = omega arith in
    sym (rw z at i ∙ omega arith)

-- a level ends where the one below it begins
pub level-next : (h m : ℕ) → 0 < h → first_block_of (h - 1) m + parents_of m ≡ hash_blocks_of h m
unfolding hash_blocks_of
level-next zero m p = absurd (omega arith)
level-next (suc h) m p =
    let o : suc h - 1 ≡ h = omega arith in
    rw o

-- ---- the places of a path

-- the loop that fills them in: j of h are there, and block i of m is reached
pub places-start : (h m i : ℕ) → places_of h m i ≡ places_of (h - 0) m i
places-start h m i =
    let z : h - 0 ≡ h = omega arith in
    rw z

pub places-turn : (x r : List ℕ) (h j m i p k : ℕ) → j < h → j < length r → p ≡ digest_at (h - 1 - j) m i → k ≡ parents_of m
    → x ≡ take j r ++ places_of (h - j) m i → x ≡ take (j + 1) (set r j p) ++ places_of (h - (j + 1)) k (i / digests_per_block)
unfolding places_of
places-turn x r h j m i p k l f ep ek e =
    let a : h - j ≡ suc (h - (j + 1)) = omega arith in
    let b : h - 1 - j ≡ h - (j + 1) = omega arith in
    let v : p ≡ digest_at (h - (j + 1)) m i = rw b at ep in
    let w : take (j + 1) (set r j p) ≡ take j r ++ (p ∷ []) = rw add-one (take-suc-set r j p f) in
    (rw a at e) ∙ rw (w, v, ek, append_snoc)

pub places-end : (x r : List ℕ) (h j m i : ℕ) → h ≤ j → j ≤ h → x ≡ take j r ++ places_of (h - j) m i → take h r ≡ x
unfolding places_of
places-end x r h j m i a b e =
    let z : h - j ≡ 0 = omega arith in
    let q : j ≡ h = omega arith in
    sym ((rw (z, q) at e) ∙ append-nil (take h r))

pub length-places : (h m i : ℕ) → length (places_of h m i) ≡ h
unfolding places_of
length-places zero m i = refl
length-places (suc h) m i = ap suc (length-places h (parents_of m) (i / digests_per_block))

-- of an array that begins with them
pub first-places : (ps q : List ℕ) (h m i : ℕ) → ps ≡ places_of h m i ++ q → take h ps ≡ places_of h m i
first-places ps q h m i e = ap (take h) e ∙ take_at (places_of h m i) q h (length-places h m i)

-- each digest, and the hash block that it stands in, lies in the tree
pub places-in : (h m i j : ℕ) → i < m → j < h
    → (get_or (places_of h m i) j 0 / block_size * block_size + block_size ≤ hash_blocks_of h m * block_size) × (get_or (places_of h m i) j 0 + digest_size ≤ hash_blocks_of h m * block_size)
unfolding places_of hash_blocks_of
places-in zero m i j l k = absurd (omega arith)
places-in (suc h) m i zero l k = (omega arith, omega arith)
places-in (suc h) m i (suc j) l k =
    let r = places-in h (parents_of m) (i / digests_per_block) j (omega arith) (omega arith) in
    (omega (arith, r.0), omega (arith, r.1))

module _ (ps t : List ℕ) (h m i : ℕ) (path : take h ps ≡ places_of h m i) (index : i < m) (size : length t ≡ hash_blocks_of h m * block_size) where
  place_of : (j : ℕ) → j < h → get_or ps j 0 ≡ get_or (places_of h m i) j 0
  place_of j k = sym (get_or-take h ps j 0 k) ∙ ap (λ (x : List ℕ). get_or x j 0) path

  pub block_in : (j : ℕ) → j < h → get_or ps j 0 / block_size * block_size + block_size ≤ length t
  block_in j k = rw (place_of j k, size) (places-in h m i j index k).0

  pub digest-in : (j : ℕ) → j < h → get_or ps j 0 + digest_size ≤ length t
  digest-in j k = rw (place_of j k, size) (places-in h m i j index k).1

-- ---- the length of the tree over any count

pub length_none : (n : ℕ) → (n ≡ 0) ⊎ (most_blocks < n) → 0 ≡ length_of n
unfolding length_of
length_none n (inl a) = rw (eq-eqb n 0 a)
length_none n (inr a) =
    let some : n ≢ 0 = omega arith in
    rw (ne_eqb n 0 some, lt-ltb most_blocks n a)

pub length-of : (n : ℕ) {k : ℕ} → 1 ≤ n → n ≤ most_blocks → k ≡ tree_length n → k ≡ length_of n
unfolding length_of
length-of n l h e =
    let some : n ≢ 0 = omega arith in
    rw (ne_eqb n 0 some, le-ltb most_blocks n h) e

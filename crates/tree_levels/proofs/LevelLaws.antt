-- The loops that fill in a tree: over the digests of a level, and over the levels from the data up.
-- s is the salt, l the blocks below the level, v the level as far as it is filled in, t the tree at first.
use Prim.Native.Nat.{ℕ, zero, suc, ◌+◌, ◌-◌, ◌*◌, ◌≤◌, ◌<◌}
use native.Mathlib.Numerals.{add-one}
use native.Mathlib.Omega.{arith}
use borrow.Rule.Slice.PartMut.{put_mid}
use mathlib.Core.List.{List, [], ◌++◌, append-nil, append_assoc}
use mathlib.Core.Path.{◌≡◌, refl, sym, ap, ◌∙◌}
use lib.ListN.{length, take, drop, replicate, length-append, length-drop}
use lib.Seq.{take_at, drop_at, drop-drop, drop-length, length-take-le, take-take}
use Rattle.std.proofs.lemmas.List.{drop_all}
use Rattle.std.proofs.lemmas.Slice.{take-put_mid}
use Rattle.octets.specs.Parts.{part, patch}
use Rattle.octets.proofs.Parts.{part-patch-same, length-patch}
use Rattle.digest.specs.Sha256.{digest_size}
use Rattle.tree_path.specs.Places.{block_size, parents_of, levels_of, hash_blocks_of, first_block_of, tree_length}
use Rattle.tree_path.specs.Tree.{block_of, block_digest, digests_of, level_of, tree_of, root_of}
use Rattle.tree_path.proofs.PlaceLaws.{top_of, level-next}
use Rattle.tree_path.proofs.TreeLaws.{length-level}

-- ---- the digests of a level

-- the first i digests are put in, and rest are the blocks behind those
module _ (s l v rest : List ℕ) (i : ℕ) (left : rest ≡ drop (i * block_size) l) (put : take (i * digest_size) v ≡ digests_of i s l) where
  -- the block p comes off the front of them
  module _ (p after : List ℕ) (front : rest ≡ p ++ after) (size : length p ≡ block_size) where
    pub turn-inside : (m : ℕ) → length l ≡ m * block_size → i + 1 ≤ m
    turn-inside m e =
        let n : length l - i * block_size ≡ block_size + length after = sym (length-drop (i * block_size) l) ∙ ap length (sym left ∙ front) ∙ length-append p after ∙ omega arith in
        omega arith

    pub turn-rest : after ≡ drop ((i + 1) * block_size) l
    turn-rest =
        let n : i * block_size + block_size ≡ (i + 1) * block_size = omega arith in
        sym (drop_at p after block_size size)
        ∙ ap (drop block_size) (sym front ∙ left)
        ∙ drop-drop block_size (i * block_size) l
        ∙ ap (λ (k : ℕ). drop k l) n

    pub turn-digest : (d : List ℕ) (a k : ℕ) → a ≡ i * digest_size → d ≡ block_digest s p → length d ≡ digest_size → (i + 1) * digest_size ≤ length v
        → take ((i + 1) * digest_size) (put_mid a k v d) ≡ digests_of (i + 1) s l
    unfolding digests_of
    turn-digest d a k ea ed size-d fits =
        let b : p ≡ block_of l i = sym (ap (take block_size) (sym left ∙ front) ∙ take_at p after block_size size) in
        rw (ea, take-put_mid (i * digest_size) k v d ((i + 1) * digest_size) (omega arith) (omega arith), put, ed, b, add-one i)

  -- none comes
  pub end-level : (z : List ℕ) (m a k : ℕ) → length rest < block_size → i ≤ m → length l ≡ m * block_size → length v ≡ parents_of m * block_size → a ≡ m * digest_size → k ≡ length v - a
      → z ≡ replicate (length (take k (drop a v))) 0 → put_mid a k v z ≡ level_of s m l
  unfolding level_of
  end-level z m a k few im size-l size-v ea ek ez =
      let n : length l - i * block_size ≡ length rest = sym (length-drop (i * block_size) l) ∙ ap length (sym left) in
      let e : i ≡ m = omega arith in
      let y : length (drop a v) ≡ k = length-drop a v ∙ sym ek in
      let x : length (take k (drop a v)) ≡ k = length-take-le k (drop a v) (omega arith) in
      let w : z ≡ replicate (parents_of m * block_size - m * digest_size) 0 = ez ∙ ap (λ (n : ℕ). replicate n 0) (x ∙ omega arith) in
      let r : drop k (drop a v) ≡ [] = drop_all k (drop a v) (omega arith) in
      let f : take a v ≡ digests_of m s l = rw (ea, ← e) put in
      rw (f, r, w, append-nil)

-- ---- the levels

-- The level of m blocks, h levels being above it, stands in the tree at block first, with the lower levels behind it; root and whole are what the tree
-- that is filled in from there upwards comes to.
pub record Reached (h : ℕ) (s : List ℕ) (m first : ℕ) (tree root whole : List ℕ) : Type 0 where
  pub place : first ≡ hash_blocks_of h m
  pub fits : (first + m) * block_size ≤ length tree
  pub one : top_of h m ≡ 1
  pub top : root ≡ root_of h s m (part tree (first * block_size) (m * block_size))
  pub all : whole ≡ tree_of h s m (part tree (first * block_size) (m * block_size)) ++ drop (first * block_size) tree

-- the level above the m blocks of l, put right before block from, from which on the tree is rest
module _ (h : ℕ) (s : List ℕ) (m first from : ℕ) (t d l root whole rest : List ℕ) (place : first ≡ first_block_of h m) (next : first + parents_of m ≡ from)
    (one : top_of (suc h) m ≡ 1) (fits : from * block_size ≤ length t) (top : root ≡ root_of (suc h) s m l) (all : whole ≡ tree_of (suc h) s m l ++ rest)
    (behind : drop (from * block_size) t ≡ rest) (put : d ≡ patch t (first * block_size) (level_of s m l)) where
  size : first * block_size + length (level_of s m l) ≡ from * block_size
  size = omega (arith, length-level s m l)

  put-level : part d (first * block_size) (parents_of m * block_size) ≡ level_of s m l
  put-level = rw put (part-patch-same t (first * block_size) (level_of s m l) (omega (arith, size)) (parents_of m * block_size) (sym (length-level s m l)))

  put_rest : drop (first * block_size) d ≡ level_of s m l ++ rest
  put_rest =
      let front : length (take (first * block_size) t) ≡ first * block_size = length-take-le (first * block_size) t (omega arith) in
      rw (put, drop_at (take (first * block_size) t) _ (first * block_size) front, size, behind)

  reached-put : Reached h s (parents_of m) first d root whole
  unfolding top_of root_of tree_of
  reached-put = record {
    place = place;
    fits =
        let n : length d ≡ length t = rw put (length-patch t (first * block_size) (level_of s m l) (omega (arith, size))) in
        omega arith;
    one = one;
    top = rw put-level top;
    all = all ∙ rw (put-level, put_rest) (append_assoc (tree_of h s (parents_of m) (level_of s m l)) (level_of s m l) rest);
  }

-- the level above the data ends where the tree does, and a further level where the one below it begins
pub ends : (h n first : ℕ) (t : List ℕ) → h ≡ levels_of n → 0 < h → first ≡ first_block_of (h - 1) n → length t ≡ tree_length n
    → (first + parents_of n) * block_size ≡ length t
ends h n first t eh p ef et =
    let next : first + parents_of n ≡ hash_blocks_of (levels_of n) n =
    ap (λ (x : ℕ). x + parents_of n) ef ∙ level-next h n p ∙ ap (λ (x : ℕ). hash_blocks_of x n) eh in
    ap (λ (x : ℕ). x * block_size) next ∙ sym et

pub joins : (h m first from : ℕ) → 0 < h → first ≡ first_block_of (h - 1) m → from ≡ hash_blocks_of h m → first + parents_of m ≡ from
joins h m first from p ef e = ap (λ (x : ℕ). x + parents_of m) ef ∙ level-next h m p ∙ sym e

-- all from byte a on
pub length-rest : (t : List ℕ) (a : ℕ) → length (take (length t - a) (drop a t)) ≡ length t - a
length-rest t a = length-take-le (length t - a) (drop a t) (rw length-drop (omega arith))

-- what is written over the k bytes from byte a on is patched in
pub written : (t : List ℕ) (a k : ℕ) (x y : List ℕ) → length x ≡ k → x ≡ y → put_mid a k t x ≡ patch t a y
written t a k x y n e = rw (drop-drop k a t, ← n, e)

-- likewise over the last bytes before byte f, at which the tree was split
pub written-above : (t above below : List ℕ) (a f k : ℕ) (x y : List ℕ) → f ≤ length t → above ≡ take f t → below ≡ drop f t → k ≡ length above - a → a + length x ≡ f → x ≡ y
    → put_mid a k above x ++ below ≡ patch t a y
written-above t above below a f k x y fits ea eb ek n e =
    let size : length above ≡ f = ap length ea ∙ length-take-le f t fits in
    let front : take a above ≡ take a t = ap (take a) ea ∙ take-take a f t (omega arith) in
    let none : drop k (drop a above) ≡ [] = drop_all k (drop a above) (rw length-drop (omega arith)) in
    let rest : below ≡ drop (a + length x) t = eb ∙ ap (λ (j : ℕ). drop j t) (sym n) in
    rw (front, none, append-nil, rest, append_assoc, e)

-- the level above the data; h is all levels, and g those above that level
pub reached-first : (h g : ℕ) (s : List ℕ) (n k first : ℕ) (t d l : List ℕ) → 0 < h → g ≡ h - 1 → k ≡ parents_of n → first ≡ first_block_of g n → top_of h n ≡ 1
    → length t ≡ hash_blocks_of h n * block_size → d ≡ patch t (first * block_size) (level_of s n l) → Reached g s k first d (root_of h s n l) (tree_of h s n l)
unfolding hash_blocks_of
reached-first zero g s n k first t d l p eg ek ef o f ed = absurd (omega arith)
reached-first (suc h) g s n k first t d l p eg ek ef o f ed =
    let q : g ≡ h = omega arith in
    let e : first ≡ first_block_of h n = rw q at ef in
    let y : (first + parents_of n) * block_size ≡ length t = omega arith in
    let z : drop ((first + parents_of n) * block_size) t ≡ [] = rw y (drop-length t) in
    rw (q, ek)
    (reached-put h s n first (first + parents_of n) t d l (root_of (suc h) s n l) (tree_of (suc h) s n l) [] e refl o (omega arith) refl
    (sym (append-nil (tree_of (suc h) s n l))) z ed)

-- a further level
pub reached-turn : (h g : ℕ) (s : List ℕ) (m k from first : ℕ) (t d root whole : List ℕ) → 0 < h → g ≡ h - 1 → k ≡ parents_of m → first ≡ first_block_of g m
    → Reached h s m from t root whole → d ≡ patch t (first * block_size) (level_of s m (part t (from * block_size) (m * block_size))) → Reached g s k first d root whole
unfolding hash_blocks_of
reached-turn zero g s m k from first t d root whole p eg ek ef st ed = absurd (omega arith)
reached-turn (suc h) g s m k from first t d root whole p eg ek ef st ed =
    let q : g ≡ h = omega arith in
    let e : first ≡ first_block_of h m = rw q at ef in
    let w : first + parents_of m ≡ from = omega (arith, st.place) in
    rw (q, ek)
    (reached-put h s m first from t d (part t (from * block_size) (m * block_size)) root whole (drop (from * block_size) t) e w st.one (omega (arith, st.fits)) st.top
    st.all refl ed)

-- the root block
module _ (s : List ℕ) (h m first : ℕ) (t root whole : List ℕ) (up : h ≤ 0) (st : Reached h s m first t root whole) where
  no-level : h ≡ 0
  no-level = omega arith

  one_block : m ≡ 1
  unfolding top_of
  one_block = rw no-level at st.one

  in-front : first ≡ 0
  unfolding hash_blocks_of
  in-front = rw no-level at st.place

  pub root-fits : block_size ≤ length t
  root-fits = omega (arith, one_block, st.fits)

  pub root-tree : t ≡ whole
  unfolding tree_of
  root-tree = sym (rw (no-level, in-front) at st.all)

  pub root-digest : block_digest s (take block_size t) ≡ root
  unfolding root_of
  root-digest = sym (rw (no-level, in-front, one_block) at st.top)

-- no level: one data block, and no root block
module _ (n : ℕ) (s l t : List ℕ) (none : levels_of n ≡ 0) where
  pub root-without-level : block_digest s l ≡ root_of (levels_of n) s n l
  unfolding root_of
  root-without-level = rw none

  pub tree-without-level : length t ≡ tree_length n → t ≡ tree_of (levels_of n) s n l
  unfolding tree_of hash_blocks_of
  tree-without-level size =
      let empty : length t ≡ 0 = rw none at size in
      rw none (rw empty at (drop-length t))

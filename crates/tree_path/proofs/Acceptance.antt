-- A block verifies exactly where the digests computed along its path are those that stand above them, and each block of a tree that was built does.
use Prim.Native.Nat.{ℕ, zero, suc, ◌+◌, ◌-◌, ◌*◌, ◌/◌, ◌≤◌, ◌<◌}
use native.Mathlib.Omega.{arith}
use mathlib.Core.List.{List, [], ◌∷◌, ◌++◌, append_assoc}
use mathlib.Core.Path.{◌≡◌, sym, ap, ◌∙◌}
use lib.ListN.{length}
use Rattle.octets.specs.Parts.{part}
use Rattle.octets.proofs.Parts.{part-all, part-append-left, part-append-right}
use Rattle.digest.specs.Sha256.{digest_size}
use Rattle.tree_path.specs.Places.{block_size, digests_per_block, parents_of, first_block_of, digest_at, places_of}
use Rattle.tree_path.specs.Tree.{block_of, block_digest, level_of, tree_of, root_of}
use Rattle.tree_path.specs.Path.{risers_of, computed_of, standing_of, Verifies}
use Rattle.tree_path.proofs.PlaceLaws.{top_of}
use Rattle.tree_path.proofs.TreeLaws.{length-level, length-tree, digest-in-level}

-- ---- the path

-- the hash block in which a digest stands
block-of-place : (h m i : ℕ) → digest_at h m i / block_size ≡ first_block_of h m + i / digests_per_block
block-of-place h m i = omega arith

module _ (s t r : List ℕ) where
  pub path-agrees : (h m i : ℕ) (b : List ℕ) → Verifies s t r h m i b → computed_of s t b (places_of h m i) ≡ standing_of r t (places_of h m i)
  unfolding Verifies places_of risers_of standing_of
  path-agrees zero m i b v = ap (λ (x : List ℕ). x ∷ []) v
  path-agrees (suc h) m i b v =
      let rest = path-agrees h (parents_of m) (i / digests_per_block) (block_of t (first_block_of h m + i / digests_per_block)) v.1 in
      rw (block-of-place h m i, v.0, rest)

  pub path-verifies : (h m i : ℕ) (b : List ℕ) → computed_of s t b (places_of h m i) ≡ standing_of r t (places_of h m i) → Verifies s t r h m i b
  unfolding Verifies places_of risers_of standing_of
  path-verifies zero m i b e = cc
  path-verifies (suc h) m i b e =
      let rest : computed_of s t (block_of t (digest_at h m i / block_size)) (places_of h (parents_of m) (i / digests_per_block)) ≡ standing_of r t (places_of h (parents_of m) (i / digests_per_block)) = cc in
      (cc, path-verifies h (parents_of m) (i / digests_per_block) (block_of t (first_block_of h m + i / digests_per_block)) (rw block-of-place at rest))

-- ---- a tree that was built

-- parts of the lowest level of a tree t
module _ (h : ℕ) (s : List ℕ) (m : ℕ) (l t rest : List ℕ) (built : t ≡ tree_of (suc h) s m l ++ rest) where
  split : t ≡ tree_of h s (parents_of m) (level_of s m l) ++ (level_of s m l ++ rest)
  unfolding tree_of
  split = built ∙ append_assoc (tree_of h s (parents_of m) (level_of s m l)) (level_of s m l) rest

  in-level : (at n : ℕ) → at + n ≤ parents_of m * block_size → part t (first_block_of h m * block_size + at) n ≡ part (level_of s m l) at n
  in-level at n f =
      let size : length (level_of s m l) ≡ parents_of m * block_size = length-level s m l in
      let front : length (tree_of h s (parents_of m) (level_of s m l)) ≡ first_block_of h m * block_size = length-tree h s (parents_of m) (level_of s m l) in
      let e : first_block_of h m * block_size + at - length (tree_of h s (parents_of m) (level_of s m l)) ≡ at = omega arith in
      ap (λ (x : List ℕ). part x (first_block_of h m * block_size + at) n) split
      ∙ part-append-right (tree_of h s (parents_of m) (level_of s m l)) (level_of s m l ++ rest) (first_block_of h m * block_size + at) n (omega arith)
      ∙ ap (λ (k : ℕ). part (level_of s m l ++ rest) k n) e
      ∙ part-append-left (level_of s m l) rest at n (omega arith)

  block-above : (i : ℕ) → i < m → block_of t (first_block_of h m + i / digests_per_block) ≡ block_of (level_of s m l) (i / digests_per_block)
  block-above i k =
      let e : (first_block_of h m + i / digests_per_block) * block_size ≡ first_block_of h m * block_size + i / digests_per_block * block_size = omega arith in
      rw e (in-level (i / digests_per_block * block_size) block_size (omega arith))

  digest-above : (i : ℕ) → i < m → part t (digest_at h m i) digest_size ≡ block_digest s (block_of l i)
  digest-above i k = in-level (i * digest_size) digest_size (omega arith) ∙ digest-in-level s m l i k

pub built-verifies : (h : ℕ) (s : List ℕ) (m : ℕ) (l t rest : List ℕ) (i : ℕ) → t ≡ tree_of h s m l ++ rest → top_of h m ≡ 1 → length l ≡ m * block_size → i < m
    → Verifies s t (root_of h s m l) h m i (block_of l i)
unfolding Verifies top_of root_of
built-verifies zero s m l t rest i e o f k =
    let z : i ≡ 0 = omega arith in
    rw z (ap (block_digest s) (part-all l block_size (omega arith)))
built-verifies (suc h) s m l t rest i e o f k =
    let above = built-verifies h s (parents_of m) (level_of s m l) t (level_of s m l ++ rest) (i / digests_per_block) (split h s m l t rest e) o (length-level s m l) (omega arith) in
    (sym (digest-above h s m l t rest e i k), rw (block-above h s m l t rest e i k) above)

-- Lengths of the tree's parts, and where a digest stands in a level.
use Prim.Native.Nat.{ℕ, zero, suc, ◌-◌, ◌*◌, ◌<◌}
use native.Mathlib.Omega.{arith}
use mathlib.Core.List.{List, ◌++◌, append_assoc}
use mathlib.Core.Logic.{⊎_elim}
use mathlib.Core.Path.{◌≡◌, refl, ap, ◌∙◌}
use lib.ListN.{length, replicate, length-append, length-replicate}
use lib.Seq.{take_at, drop_at}
use Rattle.octets.specs.Parts.{part}
use Rattle.digest.specs.Sha256.Promise.{length-sha256}
use Rattle.digest.specs.Sha256.{digest_size}
use Rattle.tree_path.specs.Places.{block_size, parents_of, hash_blocks_of}
use Rattle.tree_path.specs.Tree.{block_of, block_digest, digests_of, level_of, tree_of, root_of}
use Rattle.tree_path.proofs.PlaceLaws.{below_or}

pub length-digests : (m : ℕ) (s l : List ℕ) → length (digests_of m s l) ≡ m * digest_size
unfolding digests_of
length-digests zero s l = refl
length-digests (suc m) s l = simp (length-append, length-sha256) (omega (arith, length-digests m s l))

pub length-level : (s : List ℕ) (m : ℕ) (l : List ℕ) → length (level_of s m l) ≡ parents_of m * block_size
unfolding level_of
length-level s m l = simp (length-append, length-replicate) (omega (arith, length-digests m s l))

pub length-tree : (h : ℕ) (s : List ℕ) (m : ℕ) (l : List ℕ) → length (tree_of h s m l) ≡ hash_blocks_of h m * block_size
unfolding tree_of hash_blocks_of
length-tree zero s m l = refl
length-tree (suc h) s m l = simp length-append (omega (arith, length-tree h s (parents_of m) (level_of s m l), length-level s m l))

pub length-root : (h : ℕ) (s : List ℕ) (m : ℕ) (l : List ℕ) → length (root_of h s m l) ≡ digest_size
unfolding root_of
length-root zero s m l = length-sha256 (s ++ l)
length-root (suc h) s m l = length-root h s (parents_of m) (level_of s m l)

-- the digest of block i, whatever follows the digests
digest-in : (m : ℕ) (s l q : List ℕ) (i : ℕ) → i < m → part (digests_of m s l ++ q) (i * digest_size) digest_size ≡ block_digest s (block_of l i)
unfolding digests_of
digest-in zero s l q i h = absurd (omega arith)
digest-in (suc m) s l q i h =
    ap (λ (x : List ℕ). part x (i * digest_size) digest_size) (append_assoc (digests_of m s l) (block_digest s (block_of l m)) q)
    ∙ ⊎_elim (λ k. digest-in m s l (block_digest s (block_of l m) ++ q) i k) (λ k. last (omega arith)) (below_or i m)
  where
    last : i ≡ m → part (digests_of m s l ++ (block_digest s (block_of l m) ++ q)) (i * digest_size) digest_size ≡ block_digest s (block_of l i)
    last e =
        rw (e, drop_at (digests_of m s l) (block_digest s (block_of l m) ++ q) (m * digest_size) (length-digests m s l))
        (take_at (block_digest s (block_of l m)) q digest_size (length-sha256 (s ++ block_of l m)))

pub digest-in-level : (s : List ℕ) (m : ℕ) (l : List ℕ) (i : ℕ) → i < m → part (level_of s m l) (i * digest_size) digest_size ≡ block_digest s (block_of l i)
unfolding level_of
digest-in-level s m l i h = digest-in m s l (replicate (parents_of m * block_size - m * digest_size) 0) i h

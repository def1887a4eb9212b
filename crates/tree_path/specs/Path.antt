-- The path from a data block up to the root digest. R84: the digests computed along a path are compared with what stands above each; R85: padding counts in a digest and is not looked at.
-- Source document 003, "Theory of operation" and "Hash Tree": the hash of a leaf is that of a data block, the hash of another node that of the hash block
-- below it, and hashes are verified up to the root hash.
--
-- A path is given by ps, the places in the tree at which its digests stand, the lowest first (`places_of`). The digest at byte p stands in hash block
-- p / block_size, whose own digest is the next on the path. Place k on a path is that of the data block where k is 0, and else that of the hash block of level k − 1.
--
-- risers_of s t ps         : the digests computed of the hash blocks of the tree t along the path, with the salt s
-- computed_of s t b ps     : those computed along the whole path of the data block b, which comes first
-- standing_of r t ps       : what stands above each of them: digest_size bytes of t, and for the highest the root digest r
-- Verifies s t r h m i b  : with the salt s, the block b verifies up to the root digest r as block i of m, by the h levels of the tree t above them: where there is
--                           no level, its digest is the root digest; else its digest stands at its place in the level above, and the hash block there verifies
use Rattle.std.specs.Prelude.{ℕ, zero, suc, ◌+◌, ◌/◌, List, [], ◌∷◌, ◌≡◌}
use Rattle.octets.specs.Parts.{part}
use Rattle.digest.specs.Sha256.{digest_size}
use Rattle.tree_path.specs.Places.{block_size, digests_per_block, parents_of, first_block_of, digest_at}
use Rattle.tree_path.specs.Tree.{block_of, block_digest}

unfoldable pub risers_of : List ℕ → List ℕ → List ℕ → List (List ℕ)
risers_of s t [] = []
risers_of s t (p ∷ ps) = block_digest s (block_of t (p / block_size)) ∷ risers_of s t ps

abbrev pub computed_of : List ℕ → List ℕ → List ℕ → List ℕ → List (List ℕ)
computed_of s t b ps = block_digest s b ∷ risers_of s t ps

unfoldable pub standing_of : List ℕ → List ℕ → List ℕ → List (List ℕ)
standing_of r t [] = r ∷ []
standing_of r t (p ∷ ps) = part t p digest_size ∷ standing_of r t ps

unfoldable pub Verifies : List ℕ → List ℕ → List ℕ → ℕ → ℕ → ℕ → List ℕ → Type 0
Verifies s t r zero m i b = block_digest s b ≡ r
Verifies s t r (suc h) m i b =
    (block_digest s b ≡ part t (digest_at h m i) digest_size)
    × Verifies s t r h (parents_of m) (i / digests_per_block) (block_of t (first_block_of h m + i / digests_per_block))

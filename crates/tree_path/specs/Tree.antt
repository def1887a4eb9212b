-- The hash tree over blocks. R78, R79, R80, R82; after dm-verity's format 1.
--
-- block_of l i      : block i of the bytes l
-- block_digest s b  : the digest of the block b, the salt s being put before it
-- digests_of m s l  : the digests of the first m blocks of l, one after the other
-- level_of s m l    : the level above the m blocks of l: their digests, and zeros to the end of the last hash block
-- tree_of h s m l   : h levels above the m blocks of l, the highest first
-- root_of h s m l   : the digest of the one block at the top of h levels above the m blocks of l
use Rattle.std.specs.Prelude.{ℕ, zero, suc, ◌-◌, ◌*◌, List, [], ◌++◌, replicate}
use Rattle.octets.specs.Parts.{part}
use Rattle.digest.specs.Sha256.{digest_size, sha256}
use Rattle.tree_path.specs.Places.{block_size, parents_of}

abbrev pub block_of : List ℕ → ℕ → List ℕ
block_of l i = part l (i * block_size) block_size

abbrev pub block_digest : List ℕ → List ℕ → List ℕ
block_digest s b = sha256 (s ++ b)

unfoldable pub digests_of : ℕ → List ℕ → List ℕ → List ℕ
digests_of zero s l = []
digests_of (suc m) s l = digests_of m s l ++ block_digest s (block_of l m)

unfoldable pub level_of : List ℕ → ℕ → List ℕ → List ℕ
level_of s m l = digests_of m s l ++ replicate (parents_of m * block_size - m * digest_size) 0

unfoldable pub tree_of : ℕ → List ℕ → ℕ → List ℕ → List ℕ
tree_of zero s m l = []
tree_of (suc h) s m l = tree_of h s (parents_of m) (level_of s m l) ++ level_of s m l

unfoldable pub root_of : ℕ → List ℕ → ℕ → List ℕ → List ℕ
root_of zero s m l = block_digest s l
root_of (suc h) s m l = root_of h s (parents_of m) (level_of s m l)

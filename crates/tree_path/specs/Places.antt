-- Where the parts of a hash tree stand. R80: levels up to one block; R81: the root's level first, each by rising index; R83: 1 to 16,384 data blocks;
-- R110: no level above one data block.
--
-- A tree is so many levels of hash blocks above so many blocks. The blocks below may be the data blocks or the hash blocks of a level, so each definition
-- is over h, a number of levels, and m, a number of blocks that they stand above, and i is the index of one of the m blocks.
--
-- parents_of m       : in blocks, the hash blocks that hold the digests of m blocks
-- levels_above f m   : in levels, those that lead from m blocks to one; f bounds the search, and any f of at least m is enough
-- levels_of n        : in levels, the tree over n data blocks; 0 where n is 1
-- hash_blocks_of h m  : in blocks, all of h levels above m blocks
-- first_block_of h m  : in blocks from the tree's start, where the level right above m blocks begins, h levels being above that level
-- digest_at h m i    : in bytes from the tree's start, where the digest of block i of m stands, h levels being above the level that it stands in
-- places_of h m i    : in bytes from the tree's start, where the digests along the path of block i of m stand, the lowest first, one in each of h levels
-- tree_length n      : in bytes, the tree over n data blocks
-- length_of n        : the same for any count; 0 too where n is out of range, so that there is no such tree
use Rattle.std.specs.Prelude.{ℕ, zero, suc, ◌+◌, ◌-◌, ◌*◌, ◌/◌, List, [], ◌∷◌, eqb, ltb}
use Rattle.octets.specs.Choice.{pick, first_met}
use Rattle.digest.specs.Sha256.{digest_size}

-- ---- sizes and limits

-- the length of a data block and of a hash block, in bytes
abbrev pub block_size : ℕ
block_size = 4096

-- the digests in a full hash block
abbrev pub digests_per_block : ℕ
digests_per_block = 128

-- the most data blocks
abbrev pub most_blocks : ℕ
most_blocks = 16384

-- the most levels, which so many data blocks have; a path has one digest more
abbrev pub most_levels : ℕ
most_levels = 2

-- the longest salt, in bytes
abbrev pub longest_salt : ℕ
longest_salt = 32

-- ---- levels

abbrev pub parents_of : ℕ → ℕ
parents_of m = (m + (digests_per_block - 1)) / digests_per_block

unfoldable pub levels_above : ℕ → ℕ → ℕ
levels_above zero m = 0
levels_above (suc f) m = pick (ltb 1 m) (suc (levels_above f (parents_of m))) 0

unfoldable pub levels_of : ℕ → ℕ
levels_of n = levels_above n n

unfoldable pub hash_blocks_of : ℕ → ℕ → ℕ
hash_blocks_of zero m = 0
hash_blocks_of (suc h) m = hash_blocks_of h (parents_of m) + parents_of m

-- ---- places

-- the highest level comes first, so what stands before a level is the levels above it
abbrev pub first_block_of : ℕ → ℕ → ℕ
first_block_of h m = hash_blocks_of h (parents_of m)

abbrev pub digest_at : ℕ → ℕ → ℕ → ℕ
digest_at h m i = first_block_of h m * block_size + i * digest_size

unfoldable pub places_of : ℕ → ℕ → ℕ → List ℕ
places_of zero m i = []
places_of (suc h) m i = digest_at h m i ∷ places_of h (parents_of m) (i / digests_per_block)

abbrev pub tree_length : ℕ → ℕ
tree_length n = hash_blocks_of (levels_of n) n * block_size

unfoldable pub length_of : ℕ → ℕ
length_of n = first_met ((eqb n 0, 0) ∷ (ltb most_blocks n, 0) ∷ []) (tree_length n)

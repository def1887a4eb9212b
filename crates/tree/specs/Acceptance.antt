-- When a data block is to be accepted. R84.
--
-- InRange n s             : the count n and the length of the salt s are in range
-- Fits b i t n s r        : every length is as the count n asks, and count, salt length and index are in range
-- Acceptable b i t n s r  : the data block b is to be accepted at index i: it fits, and verifies up to the root digest r
use Rattle.std.specs.Prelude.{ℕ, ◌≤◌, ◌<◌, List, ◌≡◌, length}
use Rattle.digest.specs.Sha256.{digest_size}
use Rattle.tree_path.specs.Places.{block_size, most_blocks, longest_salt, levels_of, tree_length}
use Rattle.tree_path.specs.Path.{Verifies}

abbrev pub InRange : ℕ → List ℕ → Type 0
InRange n s = (0 < n) × (n ≤ most_blocks) × (length s ≤ longest_salt)

pub record Fits (b : List ℕ) (i : ℕ) (t : List ℕ) (n : ℕ) (s r : List ℕ) : Type 0 where
  pub block : length b ≡ block_size
  pub digest : length r ≡ digest_size
  pub some : 0 < n
  pub count : n ≤ most_blocks
  pub salt : length s ≤ longest_salt
  pub index : i < n
  pub tree : length t ≡ tree_length n

pub record Acceptable (b : List ℕ) (i : ℕ) (t : List ℕ) (n : ℕ) (s r : List ℕ) : Type 0 where
  pub fits : Fits b i t n s r
  pub verifies : Verifies s t r (levels_of n) n i b

-- SHA-256 of a whole message, R10: FIPS 180-4, section 6.2.
--
-- digest_size : the length of a digest, in bytes
-- sha256 m   : the digest of the message m, a list of bytes
--
-- The definition is shut: no crate above can unfold it. What they may use of it is below, in Sha256/Promise (R8).
mod Laws
pub mod Promise
pub mod Examples
use Rattle.std.specs.Prelude.{ℕ, ◌/◌, List, ◌++◌, length}
use Rattle.compression.specs.Constants.{initial_hash}
use Rattle.compression.specs.Compression.{hash_of}
use Rattle.digest.specs.Padding.{padding_of, bytes_of}

abbrev pub digest_size : ℕ
digest_size = 32

abbrev padded_of : List ℕ → List ℕ
padded_of m = m ++ padding_of (length m)

pub sha256 : List ℕ → List ℕ
sha256 m = bytes_of (hash_of (length (padded_of m) / 64) initial_hash (padded_of m))

-- The definitions that the contracts cite, in the order of FIPS 180-4, then the calls, and what is proved beyond these. Words, constants and the hash of a block are in crate compression.
pub mod Padding
pub mod Sha256
pub mod Answer
pub mod Pieces
pub mod Theorems

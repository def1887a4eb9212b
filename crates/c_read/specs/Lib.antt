-- What the call leaves.
pub mod Reads

-- The theorem is in LevelBytes; Calls is what the proofs of the functions cite.
pub mod LevelBytes
mod Calls

-- Theorems: VolumeStateBytes, a state and its bytes. VolumeStates is what the proofs of the functions, and those of crate replies, cite.
pub mod VolumeStateBytes
pub mod VolumeStates

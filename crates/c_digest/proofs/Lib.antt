-- DigestStateBytes has the proofs of specs/Theorems; DigestStates and Calls are what the proofs of the functions cite.
pub mod DigestStateBytes
mod DigestStates
mod Calls

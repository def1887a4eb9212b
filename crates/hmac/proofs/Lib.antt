-- Theorems has the proofs of specs/Theorems; the others are what the proofs of the functions cite.
pub mod Theorems
mod Blocks
mod Behind
mod Calls
pub mod Clients

-- The theorem.
pub mod Refusals

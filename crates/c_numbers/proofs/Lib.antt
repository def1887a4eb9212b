-- What the proofs of the functions, and of the crates above, cite.
pub mod NumberBytes
pub mod Outcomes
pub mod Calls

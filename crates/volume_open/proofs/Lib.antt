-- Laws that the proofs of the calls cite: what each test, and each way through a call, leads to.
pub mod Queries
pub mod Checks
pub mod Opens

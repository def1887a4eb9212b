-- Laws that the proofs of the calls cite: what each test, and each way through it, leads to; and the store of a step, made.
pub mod Steps
pub mod Making

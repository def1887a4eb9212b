-- Laws that the proofs of the call cite: what each test, and each way through it, leads to.
pub mod Verifying

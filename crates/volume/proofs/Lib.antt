-- Laws that the proofs of the call cite: what each way through it leads to.
pub mod Advancing

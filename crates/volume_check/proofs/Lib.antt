-- Laws that the proofs of the check cite, and the proof that a recovery ends.
pub mod Checks
pub mod Finishing

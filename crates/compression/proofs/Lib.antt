-- Laws that the proofs of the functions cite.
pub mod Rotation
pub mod Schedule
pub mod Ring
pub mod Turns

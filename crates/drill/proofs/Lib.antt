-- Laws that the proofs of the drill cite.
pub mod Rows
pub mod Keys
pub mod Opens
pub mod Scripts
pub mod Turns
pub mod Worlds

-- Laws that the proofs of the report cite.
pub mod Digits
pub mod Texts
pub mod Reporting
pub mod Fresh

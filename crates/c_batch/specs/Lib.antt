-- What the calls leave.
pub mod Batch

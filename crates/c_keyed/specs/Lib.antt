-- What the calls leave.
pub mod Keyed

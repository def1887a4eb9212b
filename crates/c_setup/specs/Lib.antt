-- What the calls leave.
pub mod Setup

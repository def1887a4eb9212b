-- What the calls leave.
pub mod Steps

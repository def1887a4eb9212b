-- The lines that report a check.
pub mod Report
pub mod Text

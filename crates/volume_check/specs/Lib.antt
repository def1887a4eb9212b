-- The check of a whole volume, and that its recovery ends.
pub mod Check
pub mod Finishes

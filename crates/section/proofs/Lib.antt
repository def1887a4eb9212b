pub mod Entries
pub mod Clearing
pub mod Counts

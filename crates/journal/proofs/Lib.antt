pub mod Scans
pub mod Tables
pub mod Ordering
pub mod Walks
pub mod Recovery

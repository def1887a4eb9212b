pub mod Places
pub mod Tree
pub mod Path

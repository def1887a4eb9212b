pub mod Sizes
pub mod Fields

pub mod Answer
pub mod Build
pub mod Verify
pub mod Acceptance
pub mod Theorems

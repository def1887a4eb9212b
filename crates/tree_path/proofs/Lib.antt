pub mod PlaceLaws
pub mod TreeLaws
pub mod PathLaws
pub mod Acceptance

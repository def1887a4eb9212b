pub mod CompareLaws
pub mod Returns
pub mod Comparison
pub mod Theorems
pub mod Clients

-- What the buffers and calls of the C interface have in common.
pub mod Numbers
pub mod Sizes
pub mod Outcome
pub mod Called

-- What the calls of the hash tree leave, and what is proved of a level in its buffer.
pub mod HashTree
pub mod Theorems

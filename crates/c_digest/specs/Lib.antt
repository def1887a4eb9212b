-- How a digest's state lies in a buffer, what is proved of that, and what the calls of SHA-256 leave.
pub mod DigestState
pub mod Theorems
pub mod Sha256

-- HMAC as RFC 2104 has it, then the calls, and what is proved beyond these.
pub mod Hmac
pub mod Kept
pub mod Answer
pub mod Call
pub mod Theorems

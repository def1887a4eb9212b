-- What the call leaves.
pub mod Hmac

-- What the calls of a volume say, in buffers.
pub mod Replies

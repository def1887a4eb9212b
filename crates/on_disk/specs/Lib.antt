-- The on-disk format: where the parts of a volume lie, and the bytes of the superblock and of a journal section (R15 to R30). What calls do with them is
-- the model's, which rests on this crate.
pub mod Layout
pub mod Geometry
pub mod Superblock
pub mod Section

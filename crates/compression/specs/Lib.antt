-- The definitions that the contracts cite, in the order of FIPS 180-4, how the code keeps the schedule, what is proved beyond these, and
-- examples.
pub mod Words
pub mod Constants
pub mod Compression
pub mod Ring
pub mod Theorems
pub mod Examples

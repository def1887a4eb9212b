-- How a state and a layout lie in buffers.
pub mod VolumeState
pub mod Theorems

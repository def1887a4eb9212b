-- Laws that the proof of the tag cites.
pub mod Tags
pub mod Rules

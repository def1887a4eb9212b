-- What a drill plays, and what it leaves.
pub mod Script
pub mod Played

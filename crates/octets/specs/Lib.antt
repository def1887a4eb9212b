pub mod Numbers
pub mod Parts
pub mod Sectors
pub mod Choice
pub mod Lists
pub mod Answer
pub mod Tables

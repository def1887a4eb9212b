-- The laws of addresses and sections.
pub mod Addresses
pub mod Geometry
pub mod Sections
pub mod Clients

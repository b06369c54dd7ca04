pub mod Arrays
pub mod Planned

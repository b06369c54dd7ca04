pub mod Planned
pub mod Make

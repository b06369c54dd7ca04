pub mod Edition2
pub mod Entries2

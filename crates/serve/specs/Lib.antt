pub mod Serve
pub mod Stored
pub mod Entries

pub mod Served
pub mod Loaded
pub mod Contracts

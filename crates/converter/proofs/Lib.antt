pub mod Found
pub mod Ways
pub mod Examples
pub mod Contracts

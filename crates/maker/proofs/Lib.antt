pub mod Made
pub mod Examples
pub mod Contracts

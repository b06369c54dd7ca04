pub mod Contracts
pub mod Named2

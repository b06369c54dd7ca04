pub mod Contracts
pub mod Histories

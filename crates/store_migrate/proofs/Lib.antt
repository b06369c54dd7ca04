pub mod Contracts
pub mod Moving
pub mod Histories

pub mod Migrated
pub mod Contracts

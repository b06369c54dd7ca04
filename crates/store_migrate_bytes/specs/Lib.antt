pub mod Migrate
pub mod Calls

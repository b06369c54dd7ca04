pub mod Outcome
pub mod Lay
pub mod Attempt
pub mod Arrays

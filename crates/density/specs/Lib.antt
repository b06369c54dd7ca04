pub mod Network
pub mod Groups
pub mod Plan
pub mod Rows
pub mod Figures
pub mod Isolated
pub mod Examples

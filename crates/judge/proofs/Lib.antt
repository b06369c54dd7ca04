pub mod PlanFor
pub mod Judged
pub mod Truth
pub mod Widths
pub mod Examples
pub mod Contracts
pub mod Ones
pub mod Isolated

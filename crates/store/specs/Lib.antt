pub mod Calls
pub mod Model
pub mod State
pub mod Trace
pub mod Decide
pub mod Examples
pub mod Widths

pub mod Table
pub mod Widths

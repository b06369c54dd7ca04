mod Halves
pub mod Copies

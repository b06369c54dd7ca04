pub mod Copies
pub mod LentFirst
pub mod Overlay
pub mod Turns
pub mod Widths

pub mod Intact
pub mod Zero
pub mod Standing
pub mod Figures
pub mod AtLeast
pub mod Examples

pub mod Array
pub mod Search
pub mod Moves
pub mod Rounds

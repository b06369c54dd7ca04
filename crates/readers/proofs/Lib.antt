pub mod Bodies
pub mod Heads
pub mod Lists
pub mod Ends
pub mod Editions

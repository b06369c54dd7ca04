pub mod RoundTrip
pub mod Widths
pub mod Places

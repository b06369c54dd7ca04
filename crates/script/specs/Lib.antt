pub mod Prefix
pub mod Hex
pub mod Decimal
pub mod Words
pub mod Ascii

pub mod Convert
pub mod Examples

pub mod Raise

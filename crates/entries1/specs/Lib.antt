pub mod Entries1

pub mod DeskCodes

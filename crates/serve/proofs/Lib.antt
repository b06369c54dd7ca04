pub mod FirstPlaces
pub mod ServeRules
pub mod StoredSteps
pub mod PlacesRow
pub mod Entries

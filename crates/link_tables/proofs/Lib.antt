pub mod FirstNumbers
pub mod Rows
pub mod HomeSteps
pub mod NamePlaces
pub mod ByPlace
pub mod FoundRows
pub mod Told

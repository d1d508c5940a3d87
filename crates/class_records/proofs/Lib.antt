pub mod Completion
pub mod Overriders
pub mod OwnPlaces
pub mod Pushes
pub mod Renewal
pub mod Whole

pub mod Landings
pub mod Readings
pub mod Words
pub mod Events
pub mod Moving
pub mod Given

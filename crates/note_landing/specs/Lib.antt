pub mod Books
pub mod Landings
pub mod Shown
pub mod Flights
pub mod Cases

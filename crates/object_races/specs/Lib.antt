pub mod ObjectRaces

pub mod Kids

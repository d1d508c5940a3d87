pub mod Asked
pub mod Changes

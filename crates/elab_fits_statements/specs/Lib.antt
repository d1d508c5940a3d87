pub mod Anywhere
pub mod Discipline
pub mod Forms
pub mod Items
pub mod Labels
pub mod Variables
pub mod Wholes

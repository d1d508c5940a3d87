pub mod Bare
pub mod Bodied
pub mod Declarings
pub mod Elaborating
pub mod Joins
pub mod KidSteps
pub mod Outcomes

pub mod Shows
pub mod Lands
pub mod Flying
pub mod Splits
pub mod Landed
pub mod Flown
pub mod Thrown

pub mod Choosing
pub mod Params
pub mod Rounds

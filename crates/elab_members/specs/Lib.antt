pub mod Bodies
pub mod Giving
pub mod Initialisers
pub mod Outside
pub mod Whole

pub mod Bodies
pub mod Units

pub mod Bodies
pub mod Lambdas
pub mod Made
pub mod Premises
pub mod States

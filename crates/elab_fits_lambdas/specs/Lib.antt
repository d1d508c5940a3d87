pub mod Captured
pub mod Lambdas
pub mod Made

pub mod Orders
pub mod Shapes
pub mod Trees
pub mod Units
pub mod Examples

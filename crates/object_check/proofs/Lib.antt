pub mod Orders
pub mod Named

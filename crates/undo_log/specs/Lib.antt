pub mod Index
pub mod IndexView
pub mod Notes
pub mod Order
pub mod View

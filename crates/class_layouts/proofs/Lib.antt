pub mod Changes
pub mod Counts
pub mod Cuts
pub mod Growing
pub mod Items
pub mod Laid
pub mod Served
pub mod Serving

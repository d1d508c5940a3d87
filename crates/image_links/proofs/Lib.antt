mod Spellings
mod Bases
mod Results
pub mod Found
pub mod Looked
pub mod Linking
pub mod Agreed
pub mod Small

pub mod Bases
pub mod Chains
pub mod EqualTests
pub mod Forms
pub mod Lists
pub mod OrderTests
pub mod Parts
pub mod Views

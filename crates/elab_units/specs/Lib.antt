pub mod Begun
pub mod Joined
pub mod Linkage
pub mod Made
pub mod Outcomes
pub mod Programs
pub mod Sources

pub mod Bodies
pub mod NotedBodies
pub mod Steps
pub mod Lines
pub mod Units
pub mod Alternatives
pub mod Answers
pub mod MemberHeads

pub mod Judgements
pub mod Programs
pub mod Settings
pub mod States

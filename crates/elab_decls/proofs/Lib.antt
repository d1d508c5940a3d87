pub mod EnumSteps
pub mod FunctionSteps
pub mod GlobalSteps
pub mod Lists
pub mod Steps

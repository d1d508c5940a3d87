pub mod Ranges
pub mod RuleLaws
pub mod FaultLaws
pub mod PlaceLaws
pub mod EdgeMarks

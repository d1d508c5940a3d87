pub mod Children
pub mod Found
pub mod Beginning
pub mod CodeRuns
pub mod ImageCode
pub mod Starting
pub mod StartingRun

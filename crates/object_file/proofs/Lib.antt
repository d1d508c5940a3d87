pub mod Loop
pub mod ReadLaws

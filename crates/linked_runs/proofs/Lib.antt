pub mod OneImage
pub mod Results

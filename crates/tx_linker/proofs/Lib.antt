pub mod KeptRows
pub mod WholeLinks

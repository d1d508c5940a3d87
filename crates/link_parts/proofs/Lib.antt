pub mod SameBodies
pub mod MarkedTypes
pub mod PartSteps
pub mod RowParts
pub mod RowTypes

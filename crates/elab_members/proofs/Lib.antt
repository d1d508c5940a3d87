pub mod ClassSteps
pub mod DeclarationSteps
pub mod GivenSteps
pub mod InitialiserSteps
pub mod ObjectBodies
pub mod OutsideSteps
pub mod PartSteps
pub mod SyntaxSteps

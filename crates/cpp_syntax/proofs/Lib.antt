pub mod Tables
pub mod TerminalTables
pub mod DisjointFirstSets
pub mod FirstTerminals
pub mod LongestMatches
pub mod IndependentDerivations
pub mod Readers
pub mod SingleTerminals
pub mod ReaderLoops
pub mod CommaLists
pub mod Alternatives
pub mod OperatorLevels
pub mod WithinTokens
pub mod DeclaratorForms
pub mod ParameterClauses
pub mod Balances
pub mod BalancedDerivations
pub mod WithBodies
pub mod LambdaBodies
pub mod UnitBodies
mod NodeValues
pub mod NodeKids
pub mod NodeLambdas
mod TreeLists
pub mod BuilderMarks
mod GatheredNodes
mod BuilderViews
mod BuilderCuts
mod LastNumber
mod BuilderParts
pub mod LeafReaders
mod DeclaredNames
mod LastTrees
mod TokenClasses
mod BracketPairs
pub mod Recognisers
pub mod Operands
pub mod TypeWords
pub mod ShapeDerivations
pub mod TypeShapes
pub mod DeclaratorShapes
pub mod DeclarationShapes
pub mod KnownParameters

pub mod GrownSyntax
pub mod CopiedTrees
pub mod BodyTables

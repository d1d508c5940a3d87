pub mod Counting
pub mod FunctionTypes
pub mod KidLists
pub mod ParameterTypes
pub mod SyntaxTrees

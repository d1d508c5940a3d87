pub mod Class
pub mod Conversion
pub mod Equal
pub mod Laws
pub mod Order
pub mod Spelling
pub mod Trivial
pub mod Typ

pub mod Forms
pub mod ItemPieces

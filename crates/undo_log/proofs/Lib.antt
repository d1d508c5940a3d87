mod IndexLists
pub mod NoteLists
mod LastPositions
pub mod PutBack
pub mod NoteOrder

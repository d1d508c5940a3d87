pub mod Shapes
pub mod Suiting
pub mod Words
pub mod Running
pub mod Bodies

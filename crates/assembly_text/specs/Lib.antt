pub mod Options
pub mod Words
pub mod Keys
pub mod Lines
pub mod Front
pub mod Reading
pub mod Views

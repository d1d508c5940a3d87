pub use Rattle.object_bytes.specs.Spelling
pub use Rattle.object_bytes.specs.Decoder
pub use Rattle.object_bytes.specs.Fields
pub use Rattle.object_bytes.specs.Instructions
pub use Rattle.object_bytes.specs.Objects
pub mod Reading
pub mod Answers

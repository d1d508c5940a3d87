pub mod WholeImages
pub mod WholeCells
pub mod MainThere
pub mod WholeBases
pub mod SoundBodies
pub mod KeptFuncs
pub mod SoundImages

pub mod Extents

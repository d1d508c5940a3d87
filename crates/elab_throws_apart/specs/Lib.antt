pub mod Throws

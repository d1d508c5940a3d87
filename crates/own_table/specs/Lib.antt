pub mod Bits
pub mod Records
pub mod Words
pub mod Stripes
pub mod Table

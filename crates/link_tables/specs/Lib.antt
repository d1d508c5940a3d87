pub mod Symbols
pub mod Homes
pub mod Found
pub mod Renamed

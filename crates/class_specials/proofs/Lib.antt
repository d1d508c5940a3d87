pub mod Defaults
pub mod Firsts
pub mod Singles
pub mod Wanted

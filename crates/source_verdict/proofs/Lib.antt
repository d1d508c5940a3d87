pub mod Texts
mod Alike
mod Meant
mod OneProgram
mod OneVerdict
mod Unmarked
mod WellFormed

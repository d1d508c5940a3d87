pub mod Plain
pub mod Tables
pub mod Called
pub mod Noted
pub mod Fitting
pub mod Behind
pub mod Agreeing
pub mod Returned

pub mod Alone
pub mod Checked
pub mod Linked

pub mod TextCommands

pub mod RunWrites

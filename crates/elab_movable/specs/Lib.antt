pub mod Movable

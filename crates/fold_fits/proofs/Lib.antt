mod Words
mod Heads
mod Rows
mod Nodes
mod Trees
mod Places
mod Bodies
mod Programs

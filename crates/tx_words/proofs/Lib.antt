mod Commands
mod Numbers
mod Simple
mod Slots
mod Tops
mod Walks

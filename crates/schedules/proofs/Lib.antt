mod Lines
mod Numbers
mod Reading
mod Runs

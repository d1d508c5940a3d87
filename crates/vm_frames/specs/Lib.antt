pub mod Stacks
pub mod Frames
pub mod FrameStacks
pub mod Steps

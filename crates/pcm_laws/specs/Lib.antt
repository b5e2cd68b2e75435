pub mod Rings
pub mod Pointers
pub mod Turns
pub mod Steps
pub mod Soundness
pub mod Waiting

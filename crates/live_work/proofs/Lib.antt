pub mod Called
pub mod Making
pub mod Lines
pub mod Running
pub mod Beating
pub mod OnFloor

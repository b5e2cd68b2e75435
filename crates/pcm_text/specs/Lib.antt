pub mod Names
pub mod Hex
pub mod Woken
pub mod Told
pub mod End
pub mod Front
pub mod Fault

pub mod Devices
pub mod Sounds
pub mod Stages
pub mod Steps

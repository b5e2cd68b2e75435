pub mod Cards
pub mod Passes
pub mod Turns
pub mod Links
pub mod Unlinks
pub mod Rooms

pub mod Frames
pub mod Stands
pub mod Passes
pub mod Cards
pub mod Pieces
pub mod Rounds

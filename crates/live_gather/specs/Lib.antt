pub mod Pieces
pub mod Told
pub mod Gathered
pub mod Ordered

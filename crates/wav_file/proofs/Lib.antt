pub mod Search
pub mod Pieces
pub mod Formats
pub mod Files
pub mod Written
pub mod SampleMoves
pub mod Readable

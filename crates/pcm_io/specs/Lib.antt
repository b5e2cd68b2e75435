pub mod Memory
pub mod Shelf
pub mod MemFiles
pub mod Folder
pub mod Lines
pub mod Pieces

pub mod Recordings
pub mod Chunks
pub mod Grammar
pub mod Faults

pub mod Names
pub mod Recs
pub mod Passes
pub mod Links
pub mod Seen

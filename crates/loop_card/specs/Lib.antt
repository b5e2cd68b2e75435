pub mod Rest
pub mod Ends

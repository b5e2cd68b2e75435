pub mod Votes
pub mod Phases

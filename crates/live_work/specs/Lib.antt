pub mod Called
pub mod Calls
pub mod Runs
pub mod Beats

pub mod Round
pub mod Ring
pub mod Sizes

pub mod Turning
pub mod Growing
pub mod LinkFacts
pub mod UnlinkFacts
pub mod Counting
pub mod Resting

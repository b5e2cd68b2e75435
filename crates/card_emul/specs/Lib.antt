pub mod Limits
pub mod EmulatedCard
pub mod Channel
pub mod AnyCard

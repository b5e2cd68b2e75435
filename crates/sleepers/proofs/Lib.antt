pub mod ClientLemmas
pub mod WakeLemmas
pub mod MarkLemmas

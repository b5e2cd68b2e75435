pub mod TurnLemmas
pub mod LoopLemmas

mod RoundLemmas
mod FrameLemmas
mod TurnLemmas
mod StandingLemmas
mod RingLemmas
mod SlotLemmas
mod AreaLemmas
mod AreaRoundLemmas

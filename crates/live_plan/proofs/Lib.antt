pub mod LineLemmas
pub mod StreamLemmas
pub mod SoundLemmas
pub mod PlanLemmas
pub mod LawLemmas
pub mod PlaceLemmas
pub mod DraftLemmas
pub mod FinishLemmas

pub mod PhaseLemmas
pub mod VoteLemmas
pub mod ListLemmas

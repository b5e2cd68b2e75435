pub mod LineLemmas
pub mod RecentLemmas
pub mod WindowLemmas
pub mod AnsweredLemmas
pub mod FileLemmas
pub mod LeadingLemmas

pub mod Hardware
pub mod Buffer
pub mod IndirectCard

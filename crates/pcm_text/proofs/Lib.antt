pub mod FrontLemmas
pub mod WokenLemmas
pub mod NameLemmas
pub mod HexBlocks
pub mod LengthLemmas

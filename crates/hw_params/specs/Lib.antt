pub mod Base
pub mod Hull
pub mod Masks
pub mod Sizes
pub mod Spans

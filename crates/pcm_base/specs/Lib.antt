pub mod Numbers
pub mod Boundary
pub mod Causes
pub mod Name
pub mod Shape
pub mod CardFacts
pub mod model
pub mod Examples

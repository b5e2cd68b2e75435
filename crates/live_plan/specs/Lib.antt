pub mod Lines
pub mod Said
pub mod Rules
pub mod Plan
pub mod Sound
pub mod Draft

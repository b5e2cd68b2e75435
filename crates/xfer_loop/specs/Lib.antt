pub mod Turn
pub mod Loop

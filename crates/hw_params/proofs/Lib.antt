pub mod Boxes
pub mod Checks
pub mod MaskLaws
pub mod Ranges
pub mod Unique

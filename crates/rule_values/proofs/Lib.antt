pub mod Openings
pub mod Sizes

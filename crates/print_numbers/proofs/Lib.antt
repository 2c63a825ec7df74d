pub mod Runs
pub mod Digits
pub mod Sizes

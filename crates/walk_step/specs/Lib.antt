pub mod Turns
pub mod Paces

pub mod Blocks
pub mod Endings

pub mod Fci
pub mod Asked

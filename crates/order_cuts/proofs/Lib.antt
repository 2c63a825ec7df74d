pub mod Packing
pub mod Portioning
pub mod Filling
pub mod Commands

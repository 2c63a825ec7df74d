pub mod Portions
pub mod Cuts

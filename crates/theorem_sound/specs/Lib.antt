-- What the theorems on soundness state.
pub mod Parts
pub mod Opened
pub mod Keeps

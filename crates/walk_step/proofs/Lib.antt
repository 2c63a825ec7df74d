mod Shorter
pub mod Paces
mod Judged

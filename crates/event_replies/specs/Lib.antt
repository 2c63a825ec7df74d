pub mod Plays
pub mod Lives

-- A job's session played, what is printed of it, and that it ends loaded.
pub mod Plays
pub mod Jobs
pub mod Loaded

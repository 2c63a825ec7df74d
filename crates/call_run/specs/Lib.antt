-- What the calls on a session and on a stored record say.
pub mod Runs

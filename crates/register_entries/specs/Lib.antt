-- What the calls of a register say.
pub mod Entries
pub mod Owned

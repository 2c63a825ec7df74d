-- Records one after the other; and that the blocks' lines are the whole register's.
pub mod Entries
pub mod Whole
mod Owned

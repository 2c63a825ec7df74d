-- Records one after the other.
pub mod Records
pub mod Running

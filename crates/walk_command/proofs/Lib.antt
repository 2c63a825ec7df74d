pub mod Owner
pub mod Closing

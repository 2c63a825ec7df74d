-- Lists of bytes, and choices by a test: what the definition of document 01 is written with, and their laws.
pub mod Bytes
pub mod Joined
pub mod Over
pub mod Choice
pub mod Rest
pub mod Least
pub mod Truth

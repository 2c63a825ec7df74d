pub mod Named
pub mod ByKind
pub mod Records
pub mod Replies

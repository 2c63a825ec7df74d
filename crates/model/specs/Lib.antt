-- Document 01, in its own order and words. What a reader has to believe is here; every contract above cites it.
-- Bytes and words are numbers, memory is a list of bytes, and all of it computes.
pub mod Stored
pub mod Rows
pub mod Header
pub mod Table
pub mod Loads
pub mod Rules
pub mod Stages
pub mod Command
pub mod Events
pub mod Sound
pub mod Session
pub mod Order
pub mod Lines

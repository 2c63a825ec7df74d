-- Hexadecimal job text: what a character is, where it brings the reader, and what a text gives.
pub mod Characters
pub mod Places
pub mod Pairs
pub mod Text

-- Demand 3, "Secrets stay secret", over the definition of document 01. A grouping, a command, an event and a session
-- that are given what may be seen, on a veiled card, do the same (Marks to Turns); so two sessions that look alike
-- are alike (Cards, Sessions, Calls, Replay). What is hidden is what the card keeps as a secret, byte for byte
-- (Places to Kept); the view tells which bytes those are (Told), and leaves all others (Leaves); a session that
-- differs from another only in such bytes looks like it (Goes to Differ), and so each call gives the same (Demand).
-- Witnesses and Differing are computed.
pub mod Marks
pub mod Veils
pub mod Rules
pub mod Hiding
pub mod Heads
pub mod RowCases
pub mod Grouping
pub mod Commands
pub mod Events
pub mod Turns
pub mod Cards
pub mod Sessions
pub mod Calls
pub mod Replay
pub mod Places
pub mod Stays
pub mod Keeps
pub mod Kept
pub mod Told
pub mod Leaves
pub mod Goes
pub mod Agree
pub mod Differ
pub mod Demand
pub mod Witnesses
pub mod Differing

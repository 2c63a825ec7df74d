-- What may be seen of a session, and a card without its secrets' bytes: what the theorems of proofs/ are stated with.
pub mod View
pub mod Veil
pub mod Alike
pub mod Kept
pub mod Demand

-- "Sound" is kept by every event; and what soundness says of the places of records and of an open value.
pub mod Within
pub mod Parts
pub mod Opened
pub mod Inside
pub mod Taking
pub mod Changes
pub mod Ends
pub mod Feeding
pub mod Feeds
pub mod RowFacts
pub mod Groupings
pub mod Walks
pub mod Keeps
pub mod Lives
pub mod Events
pub mod Sessions

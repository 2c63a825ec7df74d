-- The card takes whatever the writer cuts: demand 2's return, over the definition of document 01.
-- The working walk goes byte by byte, and splits anywhere (Splits: `run_append`).
pub mod Splits
pub mod Opened
pub mod Heads
pub mod Values
-- It is the published walk (Walks: `walk_behind`, `command_run`, `command_sound`).
pub mod Bridge
pub mod Walks
-- The units of an order that passes, and their packing (Packing: `cut_whole`, `cut_packs`; Commands: `cut_sized`,
-- `records_few`).
pub mod Begins
pub mod Units
pub mod Packing
pub mod Commands
-- The records, the session, the writer (Stored: `event_back`, `records_hold`; Fronts: `front_played`, `job_front_lem`;
-- Taken: `cut_same_end`, `taken_all`; Writes: `write_taken`).
pub mod Stored
pub mod Fronts
pub mod Played
pub mod Taken
pub mod Writes
-- The file contents that the order gives (Files: `complete_contents`, `taken_contents`, `write_contents`).
pub mod Spots
pub mod Laid
pub mod Passed
pub mod Listed
pub mod Filled
pub mod Files
-- None of it is empty.
pub mod Witness

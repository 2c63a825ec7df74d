-- The working walk of a command, byte by byte; what a cut is; the job that the writer's records are for; the files
-- that an order fills.
pub mod Bytewise
pub mod Packs
pub mod Job
pub mod Contents

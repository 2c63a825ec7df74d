-- The first missing row; and bytes of a descriptor in an array.
pub mod Stops

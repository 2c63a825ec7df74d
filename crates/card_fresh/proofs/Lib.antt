-- The chip record's parts, and its form.
pub mod Chips

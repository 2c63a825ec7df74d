-- Characters read at a place, how many events a register tells, and a register that is printed whole.
pub mod Places
pub mod Counts
pub mod Printed

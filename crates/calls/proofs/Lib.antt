-- Parts of stored bytes, place sums, and runs of bytes.
pub mod Numbers
pub mod Places
pub mod Runs

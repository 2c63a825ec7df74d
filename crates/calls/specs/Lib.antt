-- What the program `calls` reads and prints: numbers of more than one byte, cards, and the place sum of memory.
pub mod Numbers
pub mod Cards
pub mod Sums
pub mod Stores

-- proofs/Demands is the page to read; the others are steps to it.
pub mod Refusals
pub mod Single
pub mod Demands

pub mod Laying
pub mod Runs
pub mod Theorems
pub mod Examples

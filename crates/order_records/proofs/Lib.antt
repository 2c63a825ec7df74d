-- Records laid one after the other.
pub mod Laying
pub mod Records

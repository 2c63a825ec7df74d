pub mod Blotted

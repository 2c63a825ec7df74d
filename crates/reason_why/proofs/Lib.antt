-- A reason stands exactly where an order is not complete; and it is read off the card's walk.
pub mod Reasons
mod Left
mod Walks

-- Completeness by the card's own walk; the writer's numbers; and what a card does with what was written.
pub mod Numbers
pub mod Returns

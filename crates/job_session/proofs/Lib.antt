-- The records before the writer's, and the session that they make with those.
pub mod Laid
pub mod Sessions
pub mod Jobs

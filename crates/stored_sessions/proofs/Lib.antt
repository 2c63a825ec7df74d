-- How a session is written down here, and the stored sessions.
pub mod Forms
pub mod Sessions

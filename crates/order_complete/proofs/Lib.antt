pub mod Complete

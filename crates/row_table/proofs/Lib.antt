pub mod Missing
pub mod Records

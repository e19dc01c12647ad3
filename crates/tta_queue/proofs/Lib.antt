pub mod Round
pub mod Standing
pub mod Clocking
pub mod Running
pub mod Rows
pub mod Saying

pub mod Cited
pub mod Signals
pub mod Levels
pub mod Dump
pub mod Statement
pub mod Steps
pub mod Told

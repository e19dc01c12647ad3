pub mod Cited
pub mod Lines
pub mod Names
pub mod Calls
pub mod Steps
pub mod Words
pub mod Taken

pub mod Names
pub mod Watches

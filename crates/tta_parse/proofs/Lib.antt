pub mod Found
mod Declared
mod Counted
mod Examples
pub mod Steps
pub mod TextNames
pub mod Constants
pub mod Scanned

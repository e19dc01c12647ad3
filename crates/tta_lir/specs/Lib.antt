pub mod Meaning
pub mod Closed
pub mod Counts
pub mod Direct

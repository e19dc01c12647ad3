pub mod Flight
pub mod Rings
pub mod Marked

pub mod Cited
pub mod Canonical
pub mod Printing

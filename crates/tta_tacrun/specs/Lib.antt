pub mod Cited
pub mod Behind
pub mod Calls
pub mod Code
pub mod Flat
pub mod Run

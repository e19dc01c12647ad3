pub mod Cited
pub mod Cycles
pub mod CycleLaws

pub mod Cited
pub mod Touched
pub mod Rows
pub mod Stands

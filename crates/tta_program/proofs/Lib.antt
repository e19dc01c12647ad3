pub mod Rows
pub mod Squares
pub mod Mains
pub mod Halted
pub mod Growing

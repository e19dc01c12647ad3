pub mod Lists
pub mod Lines
pub mod Parts
pub mod Rows

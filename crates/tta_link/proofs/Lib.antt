pub mod Shapes
pub mod Rows
pub mod Legal
pub mod Places
pub mod Whole

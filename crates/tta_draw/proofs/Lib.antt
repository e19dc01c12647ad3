mod Rows
mod Plain
pub mod Knowing
pub mod FreeLanes

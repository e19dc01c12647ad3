pub mod Cited
pub mod Request
pub mod CoreFiles
pub mod Net

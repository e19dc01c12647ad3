pub mod Cited
pub mod Carried
pub mod Writes
pub mod Written

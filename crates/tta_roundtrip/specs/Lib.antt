pub mod Cited
pub mod Readable
pub mod Statement

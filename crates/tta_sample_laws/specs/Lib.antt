pub mod Cited
pub mod Statement

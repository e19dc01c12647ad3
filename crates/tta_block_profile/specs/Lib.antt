pub mod Spent
pub mod Report
pub mod Statement

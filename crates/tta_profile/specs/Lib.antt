pub mod Cited
pub mod Counts
pub mod Feed
pub mod Outside
pub mod Steps
pub mod Report
pub mod Statement

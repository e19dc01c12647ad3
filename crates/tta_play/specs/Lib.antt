pub mod Cited
pub mod Controls
pub mod Ports
pub mod States
pub mod Steps
pub mod Statement

pub mod Cited
pub mod Fields
pub mod Guards
pub mod Net
pub mod Ports
pub mod Coverage
pub mod Ways

pub mod Machine
pub mod Joins
pub mod Effects
pub mod Legal
pub mod Fields
pub mod Layout
pub mod Rules
pub mod Over

pub mod Counted
pub mod Values
pub mod Turns
pub mod Shapes
pub mod Places
pub mod Longest
pub mod Fronts
pub mod Taken
pub mod Marks
pub mod Covering
pub mod OneKind
pub mod OneReading
mod Examples
pub mod ShownWords
pub mod Limits

pub mod Shape
pub mod Going
pub mod Drawn
pub mod SampleForms
pub mod Labels
pub mod Linking
pub mod Places
pub mod Halting

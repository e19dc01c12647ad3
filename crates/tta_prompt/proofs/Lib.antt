pub mod Lines
pub mod Shown
pub mod Sessions
pub mod Alike

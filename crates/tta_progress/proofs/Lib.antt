pub mod Keeping
mod Telling
pub mod Moving
mod More
mod Resting
pub mod Finishing

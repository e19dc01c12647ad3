pub mod Lists
pub mod Slots
pub mod Wrote
pub mod Onward

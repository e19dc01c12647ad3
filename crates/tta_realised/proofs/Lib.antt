pub mod Doing
pub mod Faultless

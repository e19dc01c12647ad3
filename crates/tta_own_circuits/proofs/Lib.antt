pub mod Found
pub mod Inclusions
pub mod Standing

pub mod Asked
pub mod Spots
pub mod Change
pub mod Keeping

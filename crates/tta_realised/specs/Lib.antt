pub mod Cited
pub mod Realised
pub mod Laws
pub mod Faultless

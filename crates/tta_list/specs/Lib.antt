pub mod Iterate
pub mod Legs
pub mod Input
pub mod Lends
pub mod Laid
pub mod Prefix

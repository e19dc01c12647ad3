pub mod Cited
pub mod Means
pub mod Overlap
pub mod Laws

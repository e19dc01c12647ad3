pub mod Cited
pub mod Own
pub mod Texts
pub mod Prompted
pub mod Endings
pub mod Laws

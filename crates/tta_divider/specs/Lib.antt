pub mod Cited
pub mod Divider
pub mod Laws

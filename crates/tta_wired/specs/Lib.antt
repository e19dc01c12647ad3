pub mod Joining
pub mod Order
pub mod Laws

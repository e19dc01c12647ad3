pub mod Cited
pub mod Texts
pub mod Command
pub mod Included
pub mod Laws

pub mod Cited
pub mod Board
pub mod Laws

pub mod Cited
pub mod Linked
pub mod Blocks
pub mod Put

pub mod Cited
pub mod Bits
pub mod Circuits
pub mod Signed

pub mod Cited
pub mod Boxed
pub mod Theorem
pub mod Sized

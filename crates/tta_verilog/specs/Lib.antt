pub mod Expressions
pub mod Circuits
pub mod Spelling
pub mod Laws

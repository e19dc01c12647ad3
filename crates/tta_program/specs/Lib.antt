pub mod Program
pub mod Sequential
pub mod Rules
pub mod Over
pub mod Sizes
pub mod Direct

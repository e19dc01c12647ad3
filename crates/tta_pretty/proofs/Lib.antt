pub mod Pushing
pub mod Calling

pub mod Tokens
pub mod Numbers
pub mod Bytes
pub mod Reading
pub mod Words
pub mod Covers

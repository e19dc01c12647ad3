pub mod Dividing
pub mod Stages
pub mod Narrow
pub mod Words
pub mod Operations
pub mod Renaming
pub mod Settling

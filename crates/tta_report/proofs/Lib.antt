pub mod Puts
pub mod Words
pub mod Reports

pub mod Names
pub mod Distinct
pub mod Walk
pub mod Shifts
pub mod Examples
pub mod Named
pub mod ReservedWords

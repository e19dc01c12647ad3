pub mod Cost
pub mod Table
pub mod Measure

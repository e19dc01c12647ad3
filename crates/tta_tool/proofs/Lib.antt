pub mod Laying
pub mod Building
pub mod ProgramSteps
pub mod Outcomes
pub mod Debuggings
pub mod Samplings
pub mod Convertings

pub mod Cited
pub mod Stages
pub mod Words
pub mod StepText
pub mod ProgramText
pub mod RegisterText
pub mod ListText
pub mod Text

pub mod Choices
mod CodeFiles
mod Digits
mod Divisions
mod Filled
pub mod Layouts
pub mod Modules
mod Pieces
mod RegisterTexts
mod Rows
mod Shares
mod Shown
mod StandardTexts
pub mod Texts
mod UnitRegisters
mod UnitWires

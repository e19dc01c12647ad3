pub mod Wires
mod Registers
mod Finds
mod Modules

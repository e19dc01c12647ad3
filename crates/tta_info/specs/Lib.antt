pub mod Lines
pub mod Buses
pub mod Parts
pub mod Chosen
pub mod MachineInfo
pub mod ImageInfo

pub mod Laws
pub mod Printed
pub mod Pins
pub mod Files

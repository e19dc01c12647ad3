pub mod Cited
pub mod Taken
pub mod Booked
pub mod Adding
pub mod Leaving
pub mod Laws

pub mod Meets
pub mod Present
pub mod WatchReads
pub mod MemoryReads
pub mod Listed
pub mod Settled
pub mod Kept
pub mod Clocked
pub mod Comes
pub mod Waited
pub mod Lasting
pub mod Trapped
pub mod Stopped
pub mod Closing
pub mod PlaceNames
pub mod Naming
pub mod Lifting
pub mod WatchFits
pub mod Widths
pub mod Pins
pub mod Tests
pub mod Moving
pub mod Holding
pub mod Moves
pub mod Operands
pub mod Clashing
pub mod Jumping
pub mod Telling
pub mod Knowing
pub mod Onward
pub mod Rows
mod Staying
mod CodeHeld
mod Filled
mod Imaging

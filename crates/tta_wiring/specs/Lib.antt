pub mod Queues
pub mod Signals
pub mod Top

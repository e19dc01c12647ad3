pub mod Cited
pub mod Legal
pub mod Illegal
pub mod Cycle
pub mod Results
pub mod Whole

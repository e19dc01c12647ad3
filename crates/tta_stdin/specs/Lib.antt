pub mod Come
pub mod Queue
pub mod OneLine

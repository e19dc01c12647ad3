pub mod Turning
pub mod Counting
pub mod Numbers
pub mod Making

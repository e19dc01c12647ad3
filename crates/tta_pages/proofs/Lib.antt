pub mod Fitting
pub mod Sizes

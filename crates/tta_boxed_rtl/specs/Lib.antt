pub mod Cited
pub mod Left
pub mod Texts
pub mod Beside
pub mod Parts
pub mod Module

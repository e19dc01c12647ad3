pub mod Pieces
pub mod Rows
pub mod Procs
pub mod FewCycles

pub mod CodeCycles

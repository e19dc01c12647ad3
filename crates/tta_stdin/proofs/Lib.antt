pub mod Gone
pub mod Examples

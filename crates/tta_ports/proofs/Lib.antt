pub mod Found
pub mod Transfers
pub mod StoreLemmas
pub mod Examples
pub mod Worlds

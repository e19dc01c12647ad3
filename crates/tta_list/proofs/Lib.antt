pub mod Lists
pub mod Tests
pub mod Sets
pub mod Iterated
pub mod Prefixes
pub mod Results

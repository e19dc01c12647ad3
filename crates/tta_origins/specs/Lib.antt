pub mod Cited
pub mod Origins
pub mod Statement

pub mod Doc
pub mod Item
pub mod Answer

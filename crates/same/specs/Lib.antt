pub mod SourceWord
pub mod Words
pub mod Difference
pub mod Same
pub mod Answer

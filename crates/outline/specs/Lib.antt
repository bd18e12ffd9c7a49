pub mod Line
pub mod Options
pub mod Outline
pub mod Hollow
pub mod Answer
pub mod Levels
pub mod Tags
pub mod Files

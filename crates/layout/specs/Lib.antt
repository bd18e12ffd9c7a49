pub mod Layout
pub mod Laws
pub mod Writing
pub mod Written
pub mod Message

pub mod Failure
pub mod Parsed
pub mod Message
pub mod Words
pub mod Input
pub mod Each
pub mod Json

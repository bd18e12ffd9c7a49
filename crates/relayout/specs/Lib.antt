pub mod Relayout
pub mod Written
pub mod Relaid
pub mod Commented
pub mod Comments
pub mod Laws
pub mod Docs
pub mod Message

pub mod Lists
pub mod Header
pub mod Fault
pub mod Message
pub mod Laws

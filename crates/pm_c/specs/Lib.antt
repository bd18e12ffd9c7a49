pub mod Calls
pub mod Faults
pub mod Handle
pub mod Held
pub mod Listing
pub mod Pieces
pub mod Reasons

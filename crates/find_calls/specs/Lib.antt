pub mod Calls
pub mod Answer
pub mod Opened

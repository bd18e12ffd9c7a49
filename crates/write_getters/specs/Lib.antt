pub mod Copies
pub mod Fields
pub mod Parameters
pub mod Templates
pub mod Getters
pub mod Answer

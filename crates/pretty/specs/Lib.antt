pub mod Answer
pub mod Comments
pub mod Report
pub mod Script

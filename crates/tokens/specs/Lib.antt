pub mod Known
pub mod Refusal
pub mod Spans
pub mod Output
pub mod Answer
pub mod Run
pub mod Arguments
pub mod Command

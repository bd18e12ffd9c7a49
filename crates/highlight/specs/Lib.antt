pub mod Style
pub mod Mark
pub mod Delimiters
pub mod Nesting
pub mod Pieces
pub mod Page
pub mod Seen
pub mod Request

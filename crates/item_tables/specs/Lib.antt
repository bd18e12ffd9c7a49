pub mod Classes
pub mod TypeStep
pub mod Moves
pub mod Expression
pub mod Walk

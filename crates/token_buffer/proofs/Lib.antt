pub mod HeldLemmas
pub mod ReadLemmas
pub mod CutLemmas
pub mod BuiltLemmas
pub mod FilledLemmas
pub mod LifetimeLemmas
mod MerelyBuiltLemmas
mod MadeLemmas
mod OuterLemmas
mod PartLemmas
mod StringLemmas

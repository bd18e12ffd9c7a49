pub mod ClassLemmas
pub mod CodeLemmas
pub mod FrontLemmas
pub mod ItemLemmas
pub mod ErrorLemmas
pub mod RangeLemmas
pub mod WithinLemmas
pub mod ErrorRangeLemmas

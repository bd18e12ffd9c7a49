pub mod ParsedLemmas
pub mod EachLemmas

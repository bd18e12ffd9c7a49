pub mod EscapeLemmas
pub mod KeywordLemmas
pub mod MarkLemmas
pub mod NestingLemmas
pub mod PieceLemmas
pub mod SeenLemmas
pub mod WhiteLemmas

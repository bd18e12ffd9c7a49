pub mod KnownLemmas
pub mod OutputLemmas
pub mod SpanLineLemmas

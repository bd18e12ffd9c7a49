pub mod AsciiLemmas
pub mod ByteOffsetLemmas
mod Examples
pub mod FileLemmas
pub mod FileTextLemmas
pub mod LineLemmas
pub mod ConsecutiveLemmas
pub mod PlaceLemmas
pub mod SeamLemmas
pub mod SplitLemmas
pub mod PlainLemmas

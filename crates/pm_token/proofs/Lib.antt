pub mod CodeReadLemmas
pub mod UnescapedLemmas
pub mod ContentLemmas
pub mod CookedValueLemmas
pub mod DigitLemmas
pub mod TextBuilderLemmas
pub mod HexEscapeLemmas
pub mod HexLemmas
pub mod IntegerLemmas
pub mod KindLawLemmas
pub mod ShortLemmas
pub mod EscapeValueLemmas
pub mod EscapedLemmas
pub mod ByteLemmas
pub mod CStringLemmas
pub mod CStringValueLemmas
mod Examples
mod JoinedExamples
mod SingleExamples
pub mod TestTokens
pub mod CompareLemmas
pub mod NameLemmas
pub mod RawValueLemmas
pub mod ReadLemmas
pub mod SingleValueLemmas
pub mod SuffixLemmas
pub mod TextLemmas
pub mod UnicodeEscapeLemmas
pub mod UnitLemmas
pub mod ValueLawLemmas
pub mod WholeLemmas
pub mod SpellingLemmas
mod PlainNameLemmas
mod StringLaneLemmas

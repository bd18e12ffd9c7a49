-- The lemmas about literals, comments, identifiers and marks that the laws of printed, joined and broken texts use, in
-- one file. A stop is a space, LF, a closer or the end of the text.

-- ---- at most one piece is there, and no other one
pub use Rattle.grammar_laws.proofs.CommentLemmas.{one_comment, one_doc, plain_or_doc}
-- ---- how these pieces begin
pub use Rattle.grammar_laws.proofs.LiteralFrontLemmas.{BeginsLiteral, literal_first, literal_plain}
pub use Rattle.lexical.proofs.CommentKindLemmas.{comment_first}
pub use Rattle.lexical.proofs.NameFinderLemmas.{named_start}
-- ---- before a stop, and as a whole text
pub use Rattle.lexical.proofs.QuotedLemmas.{stops}
pub use Rattle.grammar_laws.proofs.LiteralLemmas.{literal_before_stop, literal_whole}
pub use Rattle.grammar_laws.proofs.NameLemmas.{identifier_alone, named_before_stop, identifier_before_stop}
pub use Rattle.grammar_laws.proofs.NameLemmas.{mark_before_stop, stop_alone}
-- ---- next to a lone quote
pub use Rattle.grammar_laws.proofs.QuotableLemmas.{prefixed_follows, literal_quoted}
pub use Rattle.grammar_laws.proofs.NameLemmas.{stop_unbarred, quote_unbarred, follows_start, follows_something}
pub use Rattle.grammar_laws.proofs.NameLemmas.{IsNameOrLiteral, quote_next}
-- ---- before a line end that is put after them, at once or after other pieces
pub use Rattle.grammar_laws.proofs.CommentLemmas.{comment_line, plain_line, doc_line, comment_cut, doc_cut}
pub use Rattle.grammar_laws.proofs.QuietLemmas.{onto_split}
pub use Rattle.grammar_laws.proofs.LiteralCutLemmas.{literal_cut}

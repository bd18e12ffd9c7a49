use Rattle.std.proofs.Common.{◌∙◌, arith, sym}
use Rattle.std.proofs.lemmas.Str.{encode_ascii}
use Rattle.highlight.proofs.EscapeLemmas.{span_opened, span_parts}
use Rattle.highlight.proofs.writing.Sheet.push_span.Goals as goal

pub returns-clause-shown : goal.returns-clause-shown
returns-clause-shown c =
    span_parts _ _ _ _ _ _ (sym c.is_empty.ensures ∙ c.if-is_empty.false)
    (span_opened _ _ _ _ _ _ c.in_ok-push_str.ensures.bytes c.in_ok-push_str-2.ensures.bytes c.in_ok-push.ensures.bytes
    (encode_ascii 62 (omega arith)))
    c.in_ok-push_escaped.ensures.shown c.in_ok-push_str-3.ensures.bytes

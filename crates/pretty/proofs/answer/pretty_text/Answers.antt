use Rattle.std.proofs.Common.{subst, true}
use Rattle.std.specs.Prelude.{string_bytes}
use Rattle.std.specs.Str.{chars}
use Rattle.relayout.specs.Comments.{IsCommented}
use Rattle.relayout.specs.Relaid.{HasNoCover}
use Rattle.pretty.proofs.PrettyLemmas.{has_cover, pretty_is}
use Rattle.pretty.proofs.answer.pretty_text.Goals as goal

pub returns-in-Ok-with_any_doc_comments-clause-ok : goal.returns-in-Ok-with_any_doc_comments-clause-ok
returns-in-Ok-with_any_doc_comments-clause-ok c =
    let text = c.in-Ok.ensures.text in
    let kept = text.unchanged c.requires in
    pretty_is text.wants _ _ _ kept.0 kept.1
    (subst (λ bytes. IsCommented true (chars bytes) (chars (string_bytes c.in-Ok-with_any_doc_comments.text)))
    c.as_str.ensures.value c.in-Ok-with_any_doc_comments.ensures.ok)

pub unreachable-requires-in-Err-NoPiece : goal.unreachable-requires-in-Err-NoPiece
unreachable-requires-in-Err-NoPiece c =
    let none = rw c.in-Err-NoPiece.field-0-is at c.in-Err-NoPiece.ensures.no_piece in
    has_cover _ _ (c.in-Ok.ensures.text.unchanged c.requires).1
    (subst (λ bytes. HasNoCover (chars bytes)) c.as_str.ensures.value none)

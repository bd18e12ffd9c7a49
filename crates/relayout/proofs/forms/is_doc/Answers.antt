use Rattle.std.proofs.Common.{refl, sym, ◌∙◌}
use Rattle.std.specs.Str.{chars}
use Rattle.std.proofs.lemmas.Bool.{both_ways}
use Rattle.std.proofs.lemmas.Slice.Eq.{bytes_eq-Decides}
use Rattle.relayout.proofs.FormLemmas.{doc_bytes, doc_first, doc_parts, doc_whole, no_doc, other_flags, other_kind}
use Rattle.relayout.proofs.FormLemmas.{same_flags}
use Rattle.relayout.proofs.forms.is_doc.Goals as goal

pub returns-in_default : goal.returns-in_default
returns-in_default c = (
  λ no. absurd (both_ways _ refl no),
  λ doc. absurd
      (no_doc c.args.inner (chars c.args.doc_body.now) (chars c.args.comment.now) c.in_default.ensures.none doc),
)

pub returns-then-piece-comment : goal.returns-then-piece-comment
returns-then-piece-comment c = (
  λ no. absurd (both_ways _ refl no),
  λ doc. absurd (c.if-piece-comment.true
      (doc_bytes c.args.inner (chars c.args.doc_body.now) c.args.comment.now c.in-Some.piece c.utf8.comment
      c.in-Some.ensures.found doc)),
)

pub returns-then-is_inner-inner : goal.returns-then-is_inner-inner
returns-then-is_inner-inner c =
    let bytes = bytes_eq-Decides c.in-Doc.text.now c.args.doc_body.now in
    let inward = same_flags c.in-Doc.is_inner c.args.inner c.if-is_inner-inner.true in (
      λ yes. doc_whole c.args.inner c.in-Doc.is_inner c.args.doc_body.now c.args.comment.now c.in-Doc.text
          c.in-Some.piece c.utf8.comment c.in-Some.ensures.found c.if-piece-comment.false c.in-Doc.is inward
          (bytes.0 (sym c.eq.ensures ∙ yes)),
      λ doc. c.eq.ensures ∙ bytes.1
          (doc_parts c.args.inner c.in-Doc.is_inner c.args.doc_body.now c.args.comment.now c.in-Doc.text c.in-Some.piece
          c.utf8.doc_body c.in-Some.ensures.found c.in-Doc.is doc).1,
    )

pub returns-else-is_inner-inner : goal.returns-else-is_inner-inner
returns-else-is_inner-inner c = (
  λ yes. absurd (both_ways _ c.if-is_inner-inner.false yes),
  λ doc. absurd (other_flags c.in-Doc.is_inner c.args.inner c.if-is_inner-inner.false
      (doc_parts c.args.inner c.in-Doc.is_inner c.args.doc_body.now c.args.comment.now c.in-Doc.text c.in-Some.piece
      c.utf8.doc_body c.in-Some.ensures.found c.in-Doc.is doc).0),
)

pub returns-in_default-kind : goal.returns-in_default-kind
returns-in_default-kind c = (
  λ no. absurd (both_ways _ refl no),
  λ doc. absurd (other_kind c.in-Some.piece.kind c.in-Some.ensures.found.front (chars c.args.doc_body.now) c.args.inner
      c.in_default-kind.not-Doc
      (doc_first c.args.inner (chars c.args.doc_body.now) (chars c.args.comment.now) c.in-Some.piece
      c.in-Some.ensures.found doc).0),
)

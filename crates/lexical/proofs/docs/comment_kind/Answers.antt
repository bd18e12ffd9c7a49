use Rattle.std.proofs.Common.{sym, ap, ◌∙◌}
use Rattle.std.proofs.lemmas.Bool.{cond-false, cond-true}
use Rattle.lexical.specs.Comment.{has_bare_return}
use Rattle.lexical.proofs.docs.comment_kind.Goals as goal

pub returns-then-not-is_doc : goal.returns-then-not-is_doc
returns-then-not-is_doc c = (cond-false _ _ _ (sym c.if-not-is_doc.ensures), tt)

pub doc_text-text-requires : goal.doc_text-text-requires
doc_text-text-requires c = (c.requires, sym c.if-not-is_doc.ensures)

pub returns-then-has_bare_return : goal.returns-then-has_bare_return
returns-then-has_bare_return c =
    cond-true _ _ _ (sym c.if-not-is_doc.ensures)
    ∙ cond-true _ _ _ (ap has_bare_return (sym c.doc_text-text.ensures) ∙ sym c.if-has_bare_return.ensures)

pub returns : goal.returns
returns c = (
  cond-true _ _ _ (sym c.if-not-is_doc.ensures)
      ∙ (cond-false _ _ _ (ap has_bare_return (sym c.doc_text-text.ensures) ∙ sym c.if-has_bare_return.ensures)
      ∙ rw (c.is_inner.ensures, c.doc_text-text.ensures)),
  c.doc_text-text.utf8,
)

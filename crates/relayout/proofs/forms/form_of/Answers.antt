use Rattle.std.proofs.Common.{sym, ap, ◌∙◌, inl, inr}
use Rattle.std.specs.Str.{chars}
use Rattle.relayout.proofs.FormLemmas.{block_chars, block_form, comment_chars, end_chars, feed_chars}
use Rattle.relayout.proofs.FormLemmas.{line_form}
use Rattle.relayout.proofs.forms.form_of.Goals as goal

pub returns-then-is_doc_line : goal.returns-then-is_doc_line
returns-then-is_doc_line c =
    let line = sym c.is_doc_line.ensures ∙ c.if-is_doc_line.true in (
      inl line,
      line_form c.args.inner (chars c.args.doc_body.now) (chars c.front_of.result.now) _ line
          (ap chars c.front_of.ensures ∙ comment_chars c.args.inner) feed_chars,
    )

pub returns-then-branch : goal.returns-then-branch
returns-then-branch c =
    let other = sym c.is_doc_line.ensures ∙ c.if-is_doc_line.false in (
      inr (c.if-not-blocks.false, c.in_ok-is_doc_block.ensures.0 c.if-branch.true),
      block_form c.args.inner (chars c.args.doc_body.now) (chars c.block_front_of.result.now) _ other
          (ap chars c.block_front_of.ensures ∙ block_chars c.args.inner) end_chars,
    )

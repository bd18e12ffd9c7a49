use Rattle.std.proofs.Common.{sym, ap, ◌∙◌}
use Rattle.std.specs.Str.{chars}
use Rattle.relayout.proofs.FormLemmas.{block_chars, block_text, closer_chars, is_block}
use Rattle.relayout.proofs.RelaidLemmas.{string_chars}
use Rattle.relayout.proofs.forms.is_doc_block.Goals as goal

pub returns : goal.returns
returns c =
    let comment =
    ap chars c.as_str.ensures.value
    ∙ (string_chars c.into_string.result c.push_text-3.new.self c.into_string.ensures
    ∙ block_text c.args.inner (chars c.args.doc_body.now) _ c.in_ok-comment.comment c.push_text.new.self
    c.push_text-2.new.self c.push_text-3.new.self (chars c.block_front_of.result.now) c.in_ok-comment.ensures
    (ap chars c.block_front_of.ensures ∙ block_chars c.args.inner) closer_chars c.in_ok-push_text.ensures.ok
    c.in_ok-push_text-2.ensures.ok c.in_ok-push_text-3.ensures.ok) in
    is_block c.args.inner (chars c.args.doc_body.now) (chars c.as_str.result.now) c.is_doc.result
    (sym c.has_no_return.ensures ∙ c.if-not-has_no_return.false) comment c.is_doc.ensures

use Rattle.std.proofs.Common.{◌++◌, ◌∙◌, ap, refl, sym}
use Rattle.std.specs.Prelude.{string_bytes}
use Rattle.std.specs.Str.{chars}
use Rattle.pretty.proofs.ScriptLemmas.{line_written, no_chars}
use Rattle.pretty.proofs.script.with_line.Goals as goal

pub returns-then-is_empty : goal.returns-then-is_empty
returns-then-is_empty c =
    rw (no_chars c.args.line.now (sym c.is_empty.ensures ∙ c.if-is_empty.true)) refl

pub returns : goal.returns
returns c =
    line_written c.into_string.result c.args.line.now (chars (string_bytes c.args.text)) _ _ _ _ c.utf8.line
    (sym c.is_empty.ensures ∙ c.if-is_empty.false) c.in_ok-out.ensures c.in_ok-push_text.ensures.ok
    c.in_ok-push.ensures.ok
    (c.in_ok-push_text-2.ensures.ok ∙ ap (λ t. c.push.new.self ++ chars t) c.as_str.ensures.value)
    c.into_string.ensures

use Rattle.std.proofs.Common.{sym, ap, ◌∙◌}
use Rattle.std.specs.Prelude.{Err, string_bytes}
use Rattle.std.specs.Str.{chars}
use Rattle.std.proofs.lemmas.Str.{scalars-chars, IsUtf8-string_bytes}
use Rattle.pm_token.specs.Escaped.{string_text}
use Rattle.pm_token.specs.Value.{str_value}
use Rattle.pm_token.specs.declared.literals.conversion.ConversionErrorKind.TheVariants.{FailedToUnescape}
use Rattle.pm_token.specs.declared.literals.conversion.ConversionErrorKind.TheVariants.{InvalidLiteralKind}
use Rattle.relayout.proofs.AttributeLemmas.{no_value, text_found}
use Rattle.relayout.proofs.comments.text_of.Goals as goal

pub returns-then-any : goal.returns-then-any
returns-then-any c =
    let literal = ap (λ x. str_value x.text) c.in_ok-from_str_unchecked.ensures.ok in
    rw c.if-any.true (
      scalars-chars (string_bytes c.in-Ok.text) (IsUtf8-string_bytes c.in-Ok.text),
      sym literal ∙ c.in-Ok.ensures.value.ok,
    )

pub returns-in-Ok : goal.returns-in-Ok
returns-in-Ok c =
    let literal = ap (λ x. str_value x.text) c.in_ok-from_str_unchecked.ensures.ok in
    rw c.if-any.false (text_found (chars c.args.literal.now) (chars (string_bytes c.in-Ok.text)) _ _
    c.same_literal.result (sym literal ∙ c.in-Ok.ensures.value.ok)
    (λ same is. is.1 ∙ ap (λ t. string_text (chars (string_bytes t))) (sym is.0))
    c.same_literal.ensures)

pub returns-in-Err-InvalidLiteralKind : goal.returns-in-Err-InvalidLiteralKind
returns-in-Err-InvalidLiteralKind c =
    let literal = ap (λ x. str_value x.text) c.in_ok-from_str_unchecked.ensures.ok in
    no_value c.args.any (chars c.args.literal.now) InvalidLiteralKind
    (sym literal ∙ c.in-Err-InvalidLiteralKind.ensures.value.kind.0 (ap Err c.in-Err-InvalidLiteralKind.field-0-is))

pub returns : goal.returns
returns c =
    let literal = ap (λ x. str_value x.text) c.in_ok-from_str_unchecked.ensures.ok in
    let fault = c.in-Err-FailedToUnescape.field-0-0 in
    no_value c.args.any (chars c.args.literal.now) (FailedToUnescape fault)
    (sym literal ∙ c.in-Err-FailedToUnescape.ensures.value.unescape fault
    (ap Err c.in-Err-FailedToUnescape.field-0-is))

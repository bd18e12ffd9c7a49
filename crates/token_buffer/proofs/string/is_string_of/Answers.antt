use Rattle.std.proofs.Common.{◌++◌, length, sym, ap, ◌∙◌, subst, arith}
use Rattle.std.specs.Str.{IsUtf8}
use Rattle.std.proofs.lemmas.List.{append_cancel_left}
use Rattle.std.proofs.lemmas.Str.{chars_past_char}
use Rattle.token_buffer.specs.Strings.{escape_text}
use Rattle.token_buffer.proofs.StringLemmas.{quote_left, string_on}
use Rattle.token_buffer.proofs.string.is_string_of.Goals as goal

pub returns-in_default-after_escape : goal.returns-in_default-after_escape
returns-in_default-after_escape c =
    let was = c.loop-c.invariant in
    let on = string_on _ _ c.as_str.result.now c.in-Some-next.c c.escape_of.result was.utf8
    c.in-Some-next.ensures.steps.0 c.as_str.ensures c.escape_of.ensures in
    (λ h. absurd cc, λ e. absurd (c.in_default-after_escape.ensures.after _ (was.same.0 e ∙ on)))

pub loop-c-smaller : goal.loop-c-smaller
loop-c-smaller c = omega (
  arith,
  ap length (chars_past_char _ _ _ c.loop-c.invariant.utf8 c.in-Some-next.ensures.steps.0),
)

pub loop-c-preserved : goal.loop-c-preserved
loop-c-preserved c =
    let was = c.loop-c.invariant in
    let on = string_on _ _ c.as_str.result.now c.in-Some-next.c c.escape_of.result was.utf8
    c.in-Some-next.ensures.steps.0 c.as_str.ensures c.escape_of.ensures in
    let next = c.in-Some-after_escape.ensures.after in
    record {
      same = (
        λ e. append_cancel_left (escape_text c.escape_of.result) _ _ (sym next ∙ (was.same.0 e ∙ on)),
        λ e. was.same.1 (next ∙ (ap (λ x. escape_text c.escape_of.result ++ x) e ∙ sym on)),
      );
      left = c.in-Some-after_escape.ensures.utf8;
      utf8 = subst IsUtf8 c.as_str.ensures c.as_str.utf8;
    }

pub returns : goal.returns
returns c =
    let was = c.loop-c.invariant in
    let end = quote_left c.loop-c.left.now c.loop-c.rest.rest.now c.eq.result was.left
    c.in_default-next.ensures.steps.0.0 c.eq.ensures in
    (λ h. was.same.1 (end.0 h), λ e. end.1 (was.same.0 e))

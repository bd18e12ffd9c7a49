use Rattle.std.proofs.Common.{◌≡◌, ℕ, ◌+◌, List, IfOk, refl, ap, ap₂, subst, ◌∙◌, rules}
use Rattle.std.proofs.lemmas.Bool.{false≢true}
use Rattle.std.proofs.lemmas.Result.{err_from_is_err_and}
use Rattle.std.specs.Str.{chars}
use Rattle.pm_span.specs.Extent.{Extent}
use Rattle.pm_token.specs.Leaf.{Text}
use Rattle.pm_token.proofs.WholeLemmas.{answer_held}
use Rattle.pm_token.proofs.literals.Literal.from_str.Goals as goal

abbrev span_at : ℕ → ℕ → Extent
span_at lo count = record { lo = lo; hi = lo + count }

abbrev text_at : List ℕ → Extent → Text
text_at text span = record { text = text; span = span }

pub returns-clause-held : goal.returns-clause-held
returns-clause-held c =
    let begins = ap (λ (e : Extent). e.lo) c.span_of-span.ensures in
    let ends = ap (λ (e : Extent). e.hi) c.span_of-span.ensures in
    answer_held c.args.map.now c.add_file.new.map
    (chars c.args.text.now) _ c.span_of-span.result c.whole_at-literal.result
    c.in_ok-add_file.ensures.ok (begins ∙ c.in-Some.ensures.found.1)
    (search (rules, begins, ends, c.char_count.ensures)) c.whole_at-literal.ensures.ok
    c.whole_at-literal.ensures.refused

pub returns-in_default-clause-ok : goal.returns-in_default-clause-ok
returns-in_default-clause-ok c = tt

pub returns-in_default-clause-whole : goal.returns-in_default-clause-whole
returns-in_default-clause-whole c = tt

pub returns-in_default-clause-within : goal.returns-in_default-clause-within
returns-in_default-clause-within c = λ read. absurd (false≢true read)

pub returns-in_default-clause-lex : goal.returns-in_default-clause-lex
returns-in_default-clause-lex c = tt

pub returns-in_default-clause-held : goal.returns-in_default-clause-held
returns-in_default-clause-held c = tt

pub returns-in_default-clause-kept : goal.returns-in_default-clause-kept
returns-in_default-clause-kept c = refl

pub returns-in-Err-Memory-clause-ok : goal.returns-in-Err-Memory-clause-ok
returns-in-Err-Memory-clause-ok c = rw c.in-Err-Memory.is tt

pub returns-in-Err-Memory-clause-whole : goal.returns-in-Err-Memory-clause-whole
returns-in-Err-Memory-clause-whole c = rw c.in-Err-Memory.is tt

pub returns-in-Err-Memory-clause-within : goal.returns-in-Err-Memory-clause-within
returns-in-Err-Memory-clause-within c = λ read. c.in-Some.ensures.found.0

pub returns-in_err-add_file-clause-ok : goal.returns-in_err-add_file-clause-ok
returns-in_err-add_file-clause-ok c =
    let p = err_from_is_err_and c.from_residual.result c.from_residual.ensures.1 in
    rw p.1 tt

pub returns-in_err-add_file-clause-whole : goal.returns-in_err-add_file-clause-whole
returns-in_err-add_file-clause-whole c =
    let p = err_from_is_err_and c.from_residual.result c.from_residual.ensures.1 in
    rw p.1 tt

pub returns-in_err-add_file-clause-lex : goal.returns-in_err-add_file-clause-lex
returns-in_err-add_file-clause-lex c =
    let p = err_from_is_err_and c.from_residual.result c.from_residual.ensures.1 in
    rw (p.1, p.2) tt

pub returns-in_err-add_file-clause-held : goal.returns-in_err-add_file-clause-held
returns-in_err-add_file-clause-held c =
    let p = err_from_is_err_and c.from_residual.result c.from_residual.ensures.1 in
    rw (p.1, p.2) tt

pub returns-in_err-add_file-clause-kept : goal.returns-in_err-add_file-clause-kept
returns-in_err-add_file-clause-kept c =
    let p = err_from_is_err_and c.from_residual.result c.from_residual.ensures.1 in
    rw (p.1, p.2) c.in_err-add_file.ensures.kept

pub returns-in_err-add_file-clause-within : goal.returns-in_err-add_file-clause-within
returns-in_err-add_file-clause-within c = λ read. c.in-Some.ensures.found.0

pub returns-clause-ok : goal.returns-clause-ok
returns-clause-ok c =
    subst (λ span. IfOk c.whole_at-literal.result (λ literal. literal ≡ text_at (chars c.args.text.now) span))
    (c.span_of-span.ensures ∙ ap₂ span_at c.in-Some.ensures.found.1 c.char_count.ensures) c.whole_at-literal.ensures.ok

pub returns-clause-whole : goal.returns-clause-whole
returns-clause-whole c = c.whole_at-literal.ensures.whole

pub returns-clause-within : goal.returns-clause-within
returns-clause-within c = λ read. c.in-Some.ensures.found.0

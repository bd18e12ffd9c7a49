use Rattle.std.proofs.Common.{◌≡◌, take, sym, ap, ◌∙◌, codes, arith}
use Rattle.std.proofs.lemmas.Grind.{common_steps}
use Rattle.std.specs.Str.{chars}
use Rattle.lexical.specs.Text.{begins_with}
use Rattle.lexical.proofs.TextLemmas.{seam_boundary, seam_drop, seam_take}
use Rattle.relayout.proofs.AttributeLemmas.{literal_ends, literal_split}
use Rattle.relayout.proofs.LiteralLemmas.{text_lacked, text_past}
use Rattle.relayout.proofs.comments.split_literal.Goals as goal

pub range_from-requires : goal.range_from-requires
range_from-requires c =
    let found = c.in-Some.ensures.found in
    λ _. seam_boundary c.args.text.now found.front found.rest c.in-Some.bytes c.utf8.text found.whole found.size

pub range-requires-clause-end_boundary : goal.range-requires-clause-end_boundary
range-requires-clause-end_boundary c =
    let found = c.in-Some.ensures.found in
    seam_boundary c.args.text.now found.front found.rest c.in-Some.bytes c.utf8.text found.whole found.size

pub returns-in_default-past-clause-found : goal.returns-in_default-past-clause-found
returns-in_default-past-clause-found c =
    let found = c.in-Some.ensures.found in
    let rest : chars c.range_from.result.now ≡ found.rest =
    ap chars c.range_from.ensures.value
    ∙ seam_drop c.args.text.now found.front found.rest c.in-Some.bytes c.utf8.text found.whole found.size in
    literal_ends (chars c.args.text.now) found.front found.rest found.stands found.whole
    (ap (begins_with (codes "]\n")) (sym rest)
    ∙ text_lacked _ _ c.new.result c.new.ensures.rest c.in_default-past.ensures)

pub returns-clause-found : goal.returns-clause-found
returns-clause-found c =
    let found = c.in-Some.ensures.found in
    let cut : c.range.result.now ≡ take c.in-Some.bytes c.args.text.now = grind (arith, common_steps) in
    literal_split (chars c.args.text.now) found.front found.rest (chars c.range.result.now)
    (chars c.range_from.result.now) (chars c.in-Some-past.end.rest.now) found.stands found.whole
    (ap chars cut ∙ seam_take c.args.text.now found.front found.rest c.in-Some.bytes c.utf8.text found.whole found.size)
    (ap chars c.range_from.ensures.value
    ∙ seam_drop c.args.text.now found.front found.rest c.in-Some.bytes c.utf8.text found.whole found.size)
    (text_past _ _ c.new.result c.in-Some-past.end c.new.ensures.rest c.in-Some-past.ensures)

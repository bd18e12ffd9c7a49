use Rattle.std.proofs.Common.{ap, sym, ◌∙◌}
use Rattle.std.specs.List.{list_all}
use Rattle.lexical.specs.Quoted.{is_code, is_code_digit, code_digits, allows}
use Rattle.lexical.proofs.CodeLemmas.{digits_bytes}
use Rattle.lexical.proofs.RuleSteps.{passes_whole, then_passes, where_passes, where_lacks}
use Rattle.lexical.proofs.QuotedFinderLemmas.{digits_whole, digits_all}
use Rattle.lexical.proofs.escapes.code.Goals as goal

pub before-requires : goal.before-requires
before-requires c = passes_whole code_digits (tt, tt) _ _
    (then_passes _ _ _ _ _ c.in_ok-first.ensures c.skip-end.ensures)

pub writes_character-requires : goal.writes_character-requires
writes_character-requires c =
    let pass = then_passes _ _ _ _ _ c.in_ok-first.ensures c.skip-end.ensures in
    let all = ap (list_all is_code_digit) (c.before-2.ensures pass.front (digits_whole _ _ pass))
    ∙ digits_all _ _ pass in
    ap (list_all is_code_digit) (digits_bytes c.before-2.result.now _ c.before-2.utf8 c.as_bytes.ensures.value all)
    ∙ all

pub returns-then-not-writes_character : goal.returns-then-not-writes_character
returns-then-not-writes_character c =
    let pass = then_passes _ _ _ _ _ c.in_ok-first.ensures c.skip-end.ensures in
    let all = ap (list_all is_code_digit) (c.before-2.ensures pass.front (digits_whole _ _ pass))
    ∙ digits_all _ _ pass in
    let same = digits_bytes c.before-2.result.now _ c.before-2.utf8 c.as_bytes.ensures.value all in
    where_lacks (is_code (allows c.args.kind)) code_digits (tt, tt) _ _ _ pass c.before-2.ensures
    (ap (is_code (allows c.args.kind)) (sym same)
    ∙ (sym c.writes_character.ensures ∙ c.if-not-writes_character.true))

pub returns : goal.returns
returns c =
    let pass = then_passes _ _ _ _ _ c.in_ok-first.ensures c.skip-end.ensures in
    let all = ap (list_all is_code_digit) (c.before-2.ensures pass.front (digits_whole _ _ pass))
    ∙ digits_all _ _ pass in
    let same = digits_bytes c.before-2.result.now _ c.before-2.utf8 c.as_bytes.ensures.value all in
    where_passes (is_code (allows c.args.kind)) code_digits (tt, tt) _ _ _ pass c.before-2.ensures
    (ap (is_code (allows c.args.kind)) (sym same)
    ∙ (sym c.writes_character.ensures ∙ c.if-not-writes_character.false))

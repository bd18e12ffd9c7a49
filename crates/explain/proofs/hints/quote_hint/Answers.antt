use Rattle.std.proofs.Common.{◌∙◌, ◌++◌, ◌∷◌, ap, append_assoc, arith, length, length-append, subst, sym}
use Rattle.std.specs.Str.{chars}
use Rattle.lexical.proofs.TextLemmas.{seam_boundary, seam_drop}
use Rattle.explain.specs.Hint.{Helps}
use Rattle.explain.specs.declared.reason.Reason.TheVariants.{UnclosedRawString}
use Rattle.explain.proofs.ExplainingLemmas.{whole_past}
use Rattle.explain.proofs.HintLemmas.{nearest_reason, no_quote_reason, past_opening}
use Rattle.explain.proofs.hints.quote_hint.Goals as goal

pub range_from-requires : goal.range_from-requires
range_from-requires c =
    let is = c.requires.stands in
    λ _. seam_boundary c.args.text.now (is.1 ++ is.2) is.3 c.args.at.end c.utf8.text
    (past_opening _ is.1 is.2 is.3 is.4) is.6.end

pub between-requires-clause-from : goal.between-requires-clause-from
between-requires-clause-from c =
    let is = c.requires.stands in
    let known_reason = c.in_ok-from.ensures in
    let same = ap chars (c.new-inside.ensures.rest ∙ c.range_from.ensures.value)
    ∙ seam_drop c.args.text.now (is.1 ++ is.2) is.3 c.args.at.end c.utf8.text
    (past_opening _ is.1 is.2 is.3 is.4) is.6.end in (
      (is.1 ++ is.2) ++ known_reason.before.part,
      whole_past (chars c.args.text.now) is.3 (chars c.in_ok-from.from.rest.now) (is.1 ++ is.2) known_reason.before.part
          (past_opening _ is.1 is.2 is.3 is.4) (sym same ∙ known_reason.before.whole),
    )

pub between-requires-clause-to : goal.between-requires-clause-to
between-requires-clause-to c =
    let known_reason = c.in_ok-from.ensures in
    record { part = 34 ∷ known_reason.signs; whole = known_reason.quote; count = known_reason.count }

pub between-requires-clause-room : goal.between-requires-clause-room
between-requires-clause-room c =
    let is = c.requires.stands in
    let known_reason = c.in_ok-from.ensures in
    let same = ap chars (c.new-inside.ensures.rest ∙ c.range_from.ensures.value)
    ∙ seam_drop c.args.text.now (is.1 ++ is.2) is.3 c.args.at.end c.utf8.text
    (past_opening _ is.1 is.2 is.3 is.4) is.6.end in
    omega (
      arith,
      c.requires.fits,
      ap (λ p. p.1) c.bounds-lo.ensures.value,
      ap (λ s. s.hi) is.6.span,
      ap length (past_opening _ is.1 is.2 is.3 is.4),
      length-append (is.1 ++ is.2) is.3,
      ap length (sym same ∙ known_reason.before.whole),
      length-append known_reason.before.part (chars c.in_ok-from.from.rest.now),
      ap length known_reason.quote,
      length-append (34 ∷ known_reason.signs) (chars c.in_ok-from.to.rest.now),
      known_reason.before.count,
      known_reason.count,
      c.new-inside.ensures.chars,
    )

pub returns : goal.returns
returns c = λ kind text_before opening body whole opens at.
    let past = past_opening _ text_before opening body whole in
    let same = ap chars (c.new-inside.ensures.rest ∙ c.range_from.ensures.value)
    ∙ seam_drop c.args.text.now (text_before ++ opening) body c.args.at.end c.utf8.text past at.end in
    let known_reason = c.in_ok-from.ensures in
    nearest_reason 1 text_before opening body kind opens c.new-inside.result same c.in_ok-from.from c.in_ok-from.to
    c.between.result known_reason
    (c.between.ensures 1 (text_before ++ (opening ++ known_reason.before.part)) (34 ∷ known_reason.signs)
    (whole_past (chars c.args.text.now) body (chars c.in_ok-from.from.rest.now) (text_before ++ opening)
    known_reason.before.part
    past (sym same ∙ known_reason.before.whole)
    ∙ ap (λ t. t ++ chars c.in_ok-from.from.rest.now) (append_assoc text_before opening known_reason.before.part))
    known_reason.quote
    (omega (
      arith,
      ap (λ p. p.1) c.bounds-lo.ensures.value,
      ap (λ s. s.hi) at.span,
      length-append (text_before ++ opening) known_reason.before.part,
      ap length (append_assoc text_before opening known_reason.before.part),
      known_reason.before.count,
      c.new-inside.ensures.chars,
    )) known_reason.count)

pub returns-in_err-from : goal.returns-in_err-from
returns-in_err-from c = λ kind text_before opening body whole opens at.
    let same = ap chars (c.new-inside.ensures.rest ∙ c.range_from.ensures.value)
    ∙ seam_drop c.args.text.now (text_before ++ opening) body c.args.at.end c.utf8.text
    (past_opening _ text_before opening body whole) at.end in
    subst (Helps 1 text_before (opening ++ body) UnclosedRawString) (sym c.from_residual.ensures)
    (no_quote_reason 1 text_before opening body kind opens c.new-inside.result same c.in_err-from.ensures)

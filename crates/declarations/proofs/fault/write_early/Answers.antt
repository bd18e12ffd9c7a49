use Rattle.std.proofs.Common.{◌∙◌, ne_eqb, refl, sym, true}
use Rattle.std.proofs.Output.{has_written_append}
use Rattle.declarations.proofs.fault.write_early.Goals as goal

pub returns-then-bits-eq0 : goal.returns-then-bits-eq0
returns-then-bits-eq0 g c = λ plain ok.
    rw (sym c.bits.ensures ∙ c.if-bits-eq0.true) (c.write_str.ensures.writes plain ok)

pub returns : goal.returns
returns g c = λ plain ok.
    let begin = c.in_ok-write_str.ensures.writes plain (refl {a = true}) in
    let names = c.fmt.ensures.writes begin.plain ok in
    rw (ne_eqb c.args.expected.bits 0 (λ none. c.if-bits-eq0.false (c.bits.ensures ∙ none)))
    (has_written_append _ _ _ _ _ _ begin names)

use Rattle.std.proofs.Common.{◌<◌, sym, ap, ◌∙◌, subst, ltb-true}
use Rattle.lexical.specs.SingleQuoted.{is_plain}
use Rattle.lexical.proofs.FastLiteralLemmas.{ends}
use Rattle.lexical.proofs.FastSingleLemmas.{single_bare}
use Rattle.lexical.proofs.fast_path.quoted.bare_size.Goals as goal

pub returns-then-ends_literal : goal.returns-then-ends_literal
returns-then-ends_literal c =
    let byte = c.byte_at-byte.ensures in
    single_bare c.args.kind c.args.inside.now
    (subst (λ x. x < 128) byte (ltb-true c.byte_at-byte.result 128 (sym c.if-is_ascii.ensures)))
    (ap (is_plain c.args.kind) (sym byte) ∙ sym c.if-stands_bare.ensures)
    (sym c.byte_at.ensures ∙ c.if-byte_at-eq39.true)
    (ap ends (sym c.byte_at-then-stands_bare.ensures) ∙ sym c.if-ends_literal.ensures)

use Rattle.std.proofs.Common.{sym, ap, ◌∙◌}
use Rattle.std.proofs.lemmas.List.{take_rest}
use Rattle.lexical.proofs.FastLiteralLemmas.{ends}
use Rattle.lexical.proofs.FastSingleLemmas.{single_escaped}
use Rattle.lexical.proofs.fast_path.quoted.backslash_size.Goals as goal

pub returns-then-ends_literal : goal.returns-then-ends_literal
returns-then-ends_literal c =
    single_escaped c.args.kind c.args.inside.now _ _ (sym c.byte_at.ensures ∙ c.if-byte_at-ne92.false)
    (take_rest c.args.inside.now 1) c.in_ok-unit.ensures (sym c.byte_at-2.ensures ∙ c.if-byte_at-eq39.true)
    (ap ends (sym c.byte_at-then-byte_at-eq39.ensures) ∙ sym c.if-ends_literal.ensures)

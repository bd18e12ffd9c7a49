use Rattle.std.specs.Str.{chars}
use Rattle.std.proofs.Common.{refl}
use Rattle.tokens.proofs.SpanLineLemmas.{placed_output}
use Rattle.tokens.proofs.engine.output_of_text.Goals as goal

pub returns-in_ok-place_trees-in-Spans-clause-ok : goal.returns-in_ok-place_trees-in-Spans-clause-ok
returns-in_ok-place_trees-in-Spans-clause-ok c =
    rw c.in-Spans.is (placed_output (chars c.args.text.now) c.in_ok-place_trees-in-Spans.field-0.items _
    c.in_ok-place_trees-in-Spans.ensures.ok refl)

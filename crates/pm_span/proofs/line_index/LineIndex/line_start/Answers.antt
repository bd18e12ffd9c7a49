use Rattle.std.proofs.Common.{◌∷◌, length, get_or, sym, ap, ◌∙◌, arith}
use Rattle.pm_span.proofs.ConsecutiveLemmas.{get_or_before}
use Rattle.pm_span.proofs.line_index.LineIndex.line_start.Goals as goal

pub returns-then-line_feeds-eq0 : goal.returns-then-line_feeds-eq0
returns-then-line_feeds-eq0 c = ap (λ n. get_or (0 ∷ c.args.self.now) n 0) (sym c.if-line_feeds-eq0.true)

pub returns-else-line_feeds-eq0 : goal.returns-else-line_feeds-eq0
returns-else-line_feeds-eq0 c =
    get_or_before _ _ _ 0 c.if-line_feeds-eq0.false (omega (arith, c.requires, ap length c.self.view_is))
    c.index.ensures
    ∙ ap (λ xs. get_or (0 ∷ xs) c.args.line_feeds 0) c.self.view_is

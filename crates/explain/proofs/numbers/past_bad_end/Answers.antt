use Rattle.std.proofs.Common.{◌≡◌, None, subst}
use Rattle.lexical.specs.Number.{end as number_end}
use Rattle.lexical.specs.Rule.{find}
use Rattle.explain.proofs.NumberLemmas.{end_at_end}
use Rattle.explain.proofs.numbers.past_bad_end.Goals as goal

pub unreachable-requires : goal.unreachable-requires
unreachable-requires c = end_at_end (subst (λ t. find number_end t ≡ None) c.in_default.ensures c.requires.none) ⊥

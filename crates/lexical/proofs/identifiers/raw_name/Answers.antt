use Rattle.std.proofs.Common.{true, not, sym, ap, ◌∙◌}
use Rattle.lexical.specs.Identifier.{name, is_allowed}
use Rattle.lexical.proofs.RuleSteps.{passes_whole, where_passes, where_lacks}
use Rattle.lexical.proofs.identifiers.raw_name.Goals as goal

pub before-requires : goal.before-requires
before-requires c = passes_whole name (tt, tt) _ _ c.in_ok-end.ensures

pub returns-then-is_reserved : goal.returns-then-is_reserved
returns-then-is_reserved c =
    where_lacks (is_allowed true) name (tt, tt) _ _ _ c.in_ok-end.ensures c.before-2.ensures
    (ap not (sym c.is_reserved.ensures ∙ c.if-is_reserved.true))

pub returns : goal.returns
returns c =
    where_passes (is_allowed true) name (tt, tt) _ _ _ c.in_ok-end.ensures c.before-2.ensures
    (ap not (sym c.is_reserved.ensures ∙ c.if-is_reserved.false))

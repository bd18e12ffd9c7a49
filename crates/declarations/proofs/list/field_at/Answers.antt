use Rattle.std.proofs.Common.{sym, subst, IfOk}
use Rattle.declarations.specs.List.{IsFieldOf}
use Rattle.declarations.proofs.list.field_at.Goals as goal

pub returns-then-named-clause-ok : goal.returns-then-named-clause-ok
returns-then-named-clause-ok c =
    subst (λ b. IfOk c.parse_field.result (λ found. IsFieldOf b c.args.trees.now found.0 found.1.now))
    (sym c.if-named.true) c.parse_field.ensures.ok

pub returns-else-named-clause-ok : goal.returns-else-named-clause-ok
returns-else-named-clause-ok c =
    subst (λ b. IfOk c.parse_tuple_field.result (λ found. IsFieldOf b c.args.trees.now found.0 found.1.now))
    (sym c.if-named.false) c.parse_tuple_field.ensures.ok

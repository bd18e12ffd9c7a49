use Rattle.std.proofs.lemmas.Result.{err_from_is_err_and}
use Rattle.declarations.proofs.ParamLemmas.{predicate_bounds_fail}
use Rattle.declarations.proofs.ParamRuleLemmas.{predicate_fails, predicate_finds, predicate_sticks}
use Rattle.declarations.proofs.param_parts.predicate_of.Goals as goal

pub returns-in_err-bounded-clause-nothing : goal.returns-in_err-bounded-clause-nothing
returns-in_err-bounded-clause-nothing c =
    let p = err_from_is_err_and c.from_residual.result c.from_residual.ensures.1 in
    rw p.1 (λ predicate rest is. c.in_err-bounded.ensures.parts.nothing predicate.bounded is.from_colon is.bounded)

pub returns-in_err-bounded-clause-rule : goal.returns-in_err-bounded-clause-rule
returns-in_err-bounded-clause-rule c =
    let p = err_from_is_err_and c.from_residual.result c.from_residual.ensures.1 in
    rw (p.1, p.2) (predicate_sticks c.args.trees.now c.in_err-bounded.field-0.0.now c.in_err-bounded.ensures.rule)

pub returns-in_err-bounds-clause-nothing : goal.returns-in_err-bounds-clause-nothing
returns-in_err-bounds-clause-nothing c =
    let p = err_from_is_err_and c.from_residual-in_err-bounds.result c.from_residual-in_err-bounds.ensures.1 in
    rw p.1 (predicate_bounds_fail c.args.trees.now c.in_ok-bounded.bounded.now c.in_ok-bounded.from_colon.now
    c.in_err-bounds.field-0.0.now c.in_ok-bounded.ensures.parts c.in_err-bounds.ensures.parts)

pub returns-in_err-bounds-clause-rule : goal.returns-in_err-bounds-clause-rule
returns-in_err-bounds-clause-rule c =
    let p = err_from_is_err_and c.from_residual-in_err-bounds.result c.from_residual-in_err-bounds.ensures.1 in
    rw (p.1, p.2) (predicate_fails c.args.trees.now c.in_ok-bounded.from_colon.now c.in_err-bounds.field-0.0.now
    c.in_ok-bounded.ensures.rule c.in_err-bounds.ensures.rule)

pub returns-clause-rule : goal.returns-clause-rule
returns-clause-rule c =
    predicate_finds c.args.trees.now c.in_ok-bounded.from_colon.now c.in_ok-bounds.from_end.now
    c.in_ok-bounded.ensures.rule c.in_ok-bounds.ensures.rule

use Rattle.std.proofs.Common.{◌∙◌, refl, sym}
use Rattle.declarations.proofs.AttributeLemmas.{inner_at, no_group, no_mark, not_inner}
use Rattle.declarations.proofs.attribute.split_inner.Goals as goal

pub returns-in_err-mark-clause-found : goal.returns-in_err-mark-clause-found
returns-in_err-mark-clause-found c =
    rw (c.from_residual.ensures, c.requires.whole) (no_mark c.args.hash.now c.args.rest.now c.requires.none
    c.in_err-mark.ensures.none)

pub returns-in_err-group-clause-found : goal.returns-in_err-group-clause-found
returns-in_err-group-clause-found c =
    rw (c.from_residual-in_err-group.ensures, c.requires.whole, c.in_ok-mark.ensures.found) (no_group c.args.hash.now
    c.in_ok-mark.mark.now c.in_ok-mark.brackets.now c.in_err-group.ensures.none)

pub returns-then-is_inner-clause-found : goal.returns-then-is_inner-clause-found
returns-then-is_inner-clause-found c =
    rw (c.split_at.ensures.front, c.requires.whole, c.in_ok-mark.ensures.found, c.in_ok-group.ensures.found) (inner_at
    c.args.hash.now c.in_ok-group.group.now c.in_ok-group.after.now c.in_ok-mark.mark.now
    (sym c.is_inner.ensures ∙ c.if-is_inner.true))

pub returns-then-is_inner-clause-parts : goal.returns-then-is_inner-clause-parts
returns-then-is_inner-clause-parts c =
    rw (c.split_at.ensures.front, c.requires.whole, c.in_ok-mark.ensures.found, c.in_ok-group.ensures.found) refl

pub returns-else-is_inner-clause-found : goal.returns-else-is_inner-clause-found
returns-else-is_inner-clause-found c =
    rw (c.requires.whole, c.in_ok-mark.ensures.found, c.in_ok-group.ensures.found) (not_inner c.args.hash.now
    c.in_ok-group.group.now c.in_ok-group.after.now c.in_ok-mark.mark.now
    (sym c.is_inner.ensures ∙ c.if-is_inner.false))

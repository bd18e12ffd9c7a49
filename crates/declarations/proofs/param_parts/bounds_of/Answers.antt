use Rattle.std.proofs.Common.{MatchResult, subst, sym}
use Rattle.declarations.specs.Param.{Fails, HasBounds, Leads, after_bounds, after_name}
use Rattle.declarations.proofs.ParamRuleLemmas.{lifetime_bounds, type_bounds}
use Rattle.declarations.proofs.param_parts.bounds_of.Goals as goal

pub returns-in-Lifetime-clause-parts : goal.returns-in-Lifetime-clause-parts
returns-in-Lifetime-clause-parts c =
    subst (λ k. MatchResult c.may_bounds.result (λ f. HasBounds k c.args.trees.now f.0.now f.1.now)
    (λ e. Fails (HasBounds k) c.args.trees.now e.now)) (sym c.in-Lifetime.is) c.may_bounds.ensures.parts

pub returns-in-Type-clause-parts : goal.returns-in-Type-clause-parts
returns-in-Type-clause-parts c =
    subst (λ k. MatchResult c.may_bounds-in-Type.result (λ f. HasBounds k c.args.trees.now f.0.now f.1.now)
    (λ e. Fails (HasBounds k) c.args.trees.now e.now)) (sym c.in-Type.is) c.may_bounds-in-Type.ensures.parts

pub returns-in-Lifetime-clause-rule : goal.returns-in-Lifetime-clause-rule
returns-in-Lifetime-clause-rule c =
    subst (λ k. Leads (after_name k) (after_bounds k) c.args.trees.now c.may_bounds.result) (sym c.in-Lifetime.is)
    (lifetime_bounds c.args.trees.now c.may_bounds.result c.may_bounds.ensures.rule)

pub returns-in-Type-clause-rule : goal.returns-in-Type-clause-rule
returns-in-Type-clause-rule c =
    subst (λ k. Leads (after_name k) (after_bounds k) c.args.trees.now c.may_bounds-in-Type.result) (sym c.in-Type.is)
    (type_bounds c.args.trees.now c.may_bounds-in-Type.result c.may_bounds-in-Type.ensures.rule)

pub returns-in-Const-clause-rule : goal.returns-in-Const-clause-rule
returns-in-Const-clause-rule c =
    subst (λ k. Leads (after_name k) (after_bounds k) c.args.trees.now c.must_type.result) (sym c.in-Const.is)
    c.must_type.ensures.rule

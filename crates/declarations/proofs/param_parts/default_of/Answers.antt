use Rattle.std.proofs.Common.{MatchResult, subst, sym}
use Rattle.declarations.specs.Param.{Fails, HasDefault, ReadsPart, after_bounds}
use Rattle.declarations.specs.Reader.{Finds}
use Rattle.declarations.proofs.ParamRuleLemmas.{no_default}
use Rattle.declarations.proofs.param_parts.default_of.Goals as goal

pub returns-in-Type-clause-parts : goal.returns-in-Type-clause-parts
returns-in-Type-clause-parts c =
    subst (λ k. MatchResult c.may_type.result (λ f. HasDefault k c.args.trees.now f.0.now f.1.now)
    (λ e. Fails (HasDefault k) c.args.trees.now e.now)) (sym c.in-Type.is) c.may_type.ensures.parts

pub returns-in-Const-clause-parts : goal.returns-in-Const-clause-parts
returns-in-Const-clause-parts c =
    subst (λ k. MatchResult c.may_constant.result (λ f. HasDefault k c.args.trees.now f.0.now f.1.now)
    (λ e. Fails (HasDefault k) c.args.trees.now e.now)) (sym c.in-Const.is) c.may_constant.ensures.parts

pub returns-in-Lifetime-clause-rule : goal.returns-in-Lifetime-clause-rule
returns-in-Lifetime-clause-rule c =
    subst (λ k. Finds (after_bounds k) c.args.trees.now c.args.trees.now) (sym c.in-Lifetime.is)
    (no_default c.args.trees.now)

pub returns-in-Type-clause-rule : goal.returns-in-Type-clause-rule
returns-in-Type-clause-rule c =
    subst (λ k. ReadsPart (after_bounds k) c.args.trees.now c.may_type.result) (sym c.in-Type.is)
    c.may_type.ensures.rule

pub returns-in-Const-clause-rule : goal.returns-in-Const-clause-rule
returns-in-Const-clause-rule c =
    subst (λ k. ReadsPart (after_bounds k) c.args.trees.now c.may_constant.result) (sym c.in-Const.is)
    c.may_constant.ensures.rule

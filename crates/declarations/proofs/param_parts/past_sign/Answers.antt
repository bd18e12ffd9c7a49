use Rattle.std.proofs.Common.{◌∙◌, subst, sym}
use Rattle.declarations.specs.Signs.{BeginsWith}
use Rattle.declarations.specs.rules.Names.{one}
use Rattle.declarations.proofs.ClassLemmas.{same_class}
use Rattle.declarations.proofs.ParamLemmas.{no_sign}
use Rattle.declarations.proofs.ParamRuleLemmas.{other_sign}
use Rattle.declarations.proofs.ReaderLemmas.{heads_none, heads_sign}
use Rattle.declarations.proofs.param_parts.past_sign.Goals as goal

pub returns-then-is-clause-found : goal.returns-then-is-clause-found
returns-then-is-clause-found c =
    subst (λ d. BeginsWith c.args.trees.now d c.in-Some.rest.now)
    (same_class c.args.class c.in-Some.found (sym c.is.ensures ∙ c.if-is.true)) c.in-Some.ensures

pub returns-else-is-clause-none : goal.returns-else-is-clause-none
returns-else-is-clause-none c =
    other_sign c.args.trees.now c.in-Some.rest.now c.args.class c.in-Some.found c.in-Some.ensures
    (sym c.is.ensures ∙ c.if-is.false)

pub returns-else-is-clause-heads : goal.returns-else-is-clause-heads
returns-else-is-clause-heads c =
    heads_sign (one c.args.class) c.args.trees.now c.in-Some.rest.now c.in-Some.found c.in-Some.ensures
    ∙ (sym c.is.ensures ∙ c.if-is.false)

pub returns-in-None-clause-none : goal.returns-in-None-clause-none
returns-in-None-clause-none c = no_sign c.args.class c.args.trees.now c.in-None.ensures

pub returns-in-None-clause-heads : goal.returns-in-None-clause-heads
returns-in-None-clause-heads c = heads_none (one c.args.class) c.args.trees.now c.in-None.ensures

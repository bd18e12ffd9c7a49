use Rattle.std.proofs.Common.{◌∙◌, subst, sym}
use Rattle.declarations.specs.Signs.{BeginsWith}
use Rattle.item_tables.specs.declared.class.SignClass.TheVariants as signs
use Rattle.declarations.specs.rules.Names.{one}
use Rattle.declarations.proofs.ClassLemmas.{same_class}
use Rattle.declarations.proofs.ReaderLemmas.{heads_none, heads_sign}
use Rattle.declarations.proofs.explore.past_comma.Goals as goal

pub returns-then-is-clause-found : goal.returns-then-is-clause-found
returns-then-is-clause-found c =
    subst (λ d. BeginsWith c.args.trees.now d c.in-Some.rest.now)
    (same_class signs.Comma c.in-Some.class (sym c.is.ensures ∙ c.if-is.true)) c.in-Some.ensures

pub returns-else-is-clause-none : goal.returns-else-is-clause-none
returns-else-is-clause-none c =
    heads_sign (one signs.Comma) c.args.trees.now c.in-Some.rest.now c.in-Some.class c.in-Some.ensures
    ∙ (sym c.is.ensures ∙ c.if-is.false)

pub returns-in-None-clause-none : goal.returns-in-None-clause-none
returns-in-None-clause-none c = heads_none (one signs.Comma) c.args.trees.now c.in-None.ensures

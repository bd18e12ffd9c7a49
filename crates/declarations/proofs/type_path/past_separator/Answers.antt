use Rattle.std.proofs.Common.{◌∙◌, sym}
use Rattle.declarations.proofs.TypePathLemmas.{separator_finds, separator_may, separator_missing, separator_same}
use Rattle.declarations.proofs.TypePathLemmas.{separator_stays}
use Rattle.declarations.proofs.type_path.past_separator.Goals as goal

pub returns-then-is-clause-finds : goal.returns-then-is-clause-finds
returns-then-is-clause-finds c =
    separator_finds c.args.trees.now c.in-Some.rest.now c.in-Some.found c.in-Some.ensures
    (sym c.is.ensures ∙ c.if-is.true)

pub returns-then-is-clause-may : goal.returns-then-is-clause-may
returns-then-is-clause-may c =
    separator_may c.args.trees.now c.in-Some.rest.now c.in-Some.found c.in-Some.ensures
    (sym c.is.ensures ∙ c.if-is.true)

pub returns-else-is-clause-finds : goal.returns-else-is-clause-finds
returns-else-is-clause-finds c =
    separator_stays c.args.trees.now c.in-Some.rest.now c.in-Some.found c.in-Some.ensures
    (sym c.is.ensures ∙ c.if-is.false)

pub returns-else-is-clause-may : goal.returns-else-is-clause-may
returns-else-is-clause-may c = separator_same c.args.trees.now

pub returns-in-None-clause-finds : goal.returns-in-None-clause-finds
returns-in-None-clause-finds c = separator_missing c.args.trees.now c.in-None.ensures

pub returns-in-None-clause-may : goal.returns-in-None-clause-may
returns-in-None-clause-may c = separator_same c.args.trees.now

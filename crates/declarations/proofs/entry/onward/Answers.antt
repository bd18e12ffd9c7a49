use Rattle.std.proofs.Common.{◌∙◌}
use Rattle.grammars.specs.Grammar.{Nothing}
use Rattle.declarations.specs.rules.Entries as rule
use Rattle.declarations.proofs.EntryExpectsLemmas.{held_goes_on, other_rule, path_rule, plain_goes_on}
use Rattle.declarations.proofs.entry.onward.Goals as goal

pub returns-then-holds_path : goal.returns-then-holds_path
returns-then-holds_path c =
    held_goes_on rule.entry_rest c.args.trees.now c.args.rest.now c.args.entry.now _ c.expected_by.result
    c.in-Some.ensures.found
    (λ held goes. path_rule held.kind (c.holds_path.ensures held goes ∙ c.if-holds_path.true)) c.expected_by.ensures

pub returns-else-holds_path : goal.returns-else-holds_path
returns-else-holds_path c =
    held_goes_on Nothing c.args.trees.now c.args.rest.now c.args.entry.now _ c.expected_by-else-holds_path.result
    c.in-Some.ensures.found
    (λ held goes. other_rule held.kind (c.holds_path.ensures held goes ∙ c.if-holds_path.false))
    c.expected_by-else-holds_path.ensures

pub returns-in-None : goal.returns-in-None
returns-in-None c =
    plain_goes_on c.args.trees.now c.args.rest.now c.args.entry.now c.expected_by-in-None.result c.in-None.ensures.none
    c.expected_by-in-None.ensures

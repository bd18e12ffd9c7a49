use Rattle.std.proofs.Common.{◌∙◌, ap}
use Rattle.declarations.specs.Bare.{has_no_delimiters}
use Rattle.declarations.proofs.EntryLemmas.{bare_group}
use Rattle.declarations.proofs.entry.split_list.Goals as goal

pub returns-then-has_no_delimiters-clause-none : goal.returns-then-has_no_delimiters-clause-none
returns-then-has_no_delimiters-clause-none c =
    bare_group c.args.trees.now c.in-Some.rest.now c.in-Some.group.now c.has_no_delimiters.result
    c.in-Some.ensures.found (c.has_no_delimiters.ensures ∙ ap has_no_delimiters c.delimiter.ensures)
    c.if-has_no_delimiters.true

use Rattle.declarations.proofs.VariantLemmas.{named_finds, no_fields, tuple_finds}
use Rattle.declarations.proofs.variant.fields_of.Goals as goal

pub returns-in-Some-clause-finds : goal.returns-in-Some-clause-finds
returns-in-Some-clause-finds c =
    tuple_finds c.args.trees.now c.in-Some.rest.now c.in-Some.group.now c.in-Some.ensures.found.0
    c.in-Some.ensures.found.1

pub returns-in-Some-split_braces-clause-finds : goal.returns-in-Some-split_braces-clause-finds
returns-in-Some-split_braces-clause-finds c =
    named_finds c.args.trees.now c.in-Some-split_braces.rest.now c.in-Some-split_braces.group.now
    c.in-Some-split_braces.ensures.found.0 c.in-Some-split_braces.ensures.found.1

pub returns-in-None-split_braces-clause-finds : goal.returns-in-None-split_braces-clause-finds
returns-in-None-split_braces-clause-finds c =
    no_fields c.args.trees.now c.in-None.ensures.none c.in-None-split_braces.ensures.none

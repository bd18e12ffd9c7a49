use Rattle.std.proofs.Common.{subst, sym}
use Rattle.declarations.specs.EntryExpects.{CouldGoOn}
use Rattle.declarations.proofs.entry.fault_after_entry.Goals as goal

pub returns-clause-expected : goal.returns-clause-expected
returns-clause-expected c =
    subst (CouldGoOn c.args.trees.now c.args.entry.now c.args.rest.now) (sym c.expecting.ensures.expected)
    c.onward.ensures

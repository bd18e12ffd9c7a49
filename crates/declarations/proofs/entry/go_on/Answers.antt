use Rattle.std.proofs.Common.{◌∙◌, refl, subst, sym}
use Rattle.declarations.specs.Explore.{ExpectsWhole}
use Rattle.declarations.specs.rules.Entries.{entry_rest}
use Rattle.declarations.proofs.EntryExpectsLemmas.{args_expected}
use Rattle.declarations.proofs.HeldLemmas.{args_fault, goes_on, goes_within}
use Rattle.declarations.proofs.ReaderLemmas.{remains_within}
use Rattle.declarations.proofs.entry.go_on.Goals as goal

pub returns-in-Ok-clause-read : goal.returns-in-Ok-clause-read
returns-in-Ok-clause-read c =
    goes_on c.args.path.now c.args.after.now c.in-Ok.rest.now _ refl c.in-Ok.ensures.0 c.in-Ok.ensures.1

pub returns-in-Ok-clause-within : goal.returns-in-Ok-clause-within
returns-in-Ok-clause-within c = goes_within c.args.after.now c.in-Ok.rest.now c.in-Ok.ensures.0

pub fault_by-fault-requires : goal.fault_by-fault-requires
fault_by-fault-requires c = remains_within c.args.after.now c.in-Err.left.now c.in-Err.ensures.remains

pub returns-in-Err-clause-read : goal.returns-in-Err-clause-read
returns-in-Err-clause-read c =
    args_fault c.args.after.now c.in-Err.left.now c.after.result c.in-Err.ensures c.after.ensures.at
    (c.after.ensures.span ∙ c.fault_by-fault.ensures.span)

pub returns-in-Err-clause-expected : goal.returns-in-Err-clause-expected
returns-in-Err-clause-expected c =
    args_expected c.args.after.now c.in-Err.left.now c.after.result.at c.after.result.expected c.in-Err.ensures
    c.after.ensures.at
    (subst (ExpectsWhole entry_rest c.args.after.now) (sym c.after.ensures.expected) c.fault_by-fault.ensures.expected)

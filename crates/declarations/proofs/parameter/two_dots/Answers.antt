use Rattle.std.proofs.lemmas.Result.{err_from_is_err_and}
use Rattle.item_tables.specs.declared.class.SignClass.TheVariants as signs
use Rattle.declarations.specs.rules.Names.{one}
use Rattle.declarations.proofs.ReaderLemmas.{then_reads, then_sticks}
use Rattle.declarations.proofs.parameter.two_dots.Goals as goal

pub returns-in_err-past : goal.returns-in_err-past
returns-in_err-past c =
    let p = err_from_is_err_and c.from_residual.result c.from_residual.ensures.1 in
    rw (p.1, p.2) (then_sticks (one signs.Dot) (one signs.Dot) c.args.trees.now c.in_err-past.field-0.0.now
    c.in_err-past.ensures)

pub returns : goal.returns
returns c =
    then_reads (one signs.Dot) (one signs.Dot) c.args.trees.now c.in_ok-past.field-0.now c.past-2.result
    c.in_ok-past.ensures c.past-2.ensures

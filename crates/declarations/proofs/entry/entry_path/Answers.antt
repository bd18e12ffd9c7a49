use Rattle.std.proofs.lemmas.Result.{err_from_is_err_and}
use Rattle.grammars.specs.Grammar.{perhaps}
use Rattle.item_tables.specs.declared.class.SignClass.TheVariants as signs
use Rattle.declarations.specs.rules.Entries.{segments}
use Rattle.declarations.specs.rules.Names.{one}
use Rattle.declarations.proofs.ReaderLemmas.{then_reads, then_sticks}
use Rattle.declarations.proofs.entry.entry_path.Goals as goal

pub returns-in_err-separator : goal.returns-in_err-separator
returns-in_err-separator c =
    let p = err_from_is_err_and c.from_residual.result c.from_residual.ensures.1 in
    rw (p.1, p.2) (then_sticks (perhaps (one signs.PathSeparator)) segments c.args.trees.now
    c.in_err-separator.field-0.0.now c.in_err-separator.ensures)

pub returns : goal.returns
returns c =
    then_reads (perhaps (one signs.PathSeparator)) segments c.args.trees.now c.in_ok-separator.field-0.now
    c.segments.result c.in_ok-separator.ensures c.segments.ensures

use Rattle.std.proofs.Common.{◌∙◌, refl}
use Rattle.std.proofs.lemmas.Result.{err_from_is_err_and}
use Rattle.grammars.specs.Grammar.{Sign, Then}
use Rattle.item_tables.specs.declared.class.SignClass.TheVariants as signs
use Rattle.declarations.specs.rules.Entries.{is_literal}
use Rattle.declarations.specs.rules.Names.{one}
use Rattle.declarations.proofs.EntryLemmas.{begins_minus}
use Rattle.declarations.proofs.ReaderLemmas.{first_reads, first_sticks, other_reads, then_reads, then_sticks}
use Rattle.declarations.proofs.entry.literal.Goals as goal

pub returns-in_err-past : goal.returns-in_err-past
returns-in_err-past c =
    let p = err_from_is_err_and c.from_residual.result c.from_residual.ensures.1 in
    let left = c.in_err-past.field-0.0.now in
    rw (p.1, p.2) (first_sticks (Then (one signs.Minus) (one signs.Literal)) (Sign is_literal) c.args.trees.now left
    (begins_minus c.begins.result c.args.trees.now c.begins.ensures ∙ c.if-begins.true)
    (then_sticks (one signs.Minus) (one signs.Literal) c.args.trees.now left c.in_err-past.ensures))

pub returns-in_ok-past : goal.returns-in_ok-past
returns-in_ok-past c =
    first_reads (Then (one signs.Minus) (one signs.Literal)) (Sign is_literal) c.args.trees.now
    c.past-then-begins.result
    (begins_minus c.begins.result c.args.trees.now c.begins.ensures ∙ c.if-begins.true)
    (then_reads (one signs.Minus) (one signs.Literal) c.args.trees.now c.in_ok-past.field-0.now
    c.past-then-begins.result c.in_ok-past.ensures c.past-then-begins.ensures)

pub returns-else-begins : goal.returns-else-begins
returns-else-begins c =
    other_reads (Then (one signs.Minus) (one signs.Literal)) (Sign is_literal) c.args.trees.now
    c.plain_literal.result
    (begins_minus c.begins.result c.args.trees.now c.begins.ensures ∙ c.if-begins.false) refl
    c.plain_literal.ensures

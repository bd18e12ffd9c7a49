use Rattle.std.proofs.Common.{◌∙◌, ◌≡◌, false, refl, sym, true}
use Rattle.std.proofs.lemmas.Result.{err_from_is_err_and}
use Rattle.grammars.specs.First.{heads}
use Rattle.grammars.specs.Grammar.{Sign, Then}
use Rattle.item_tables.specs.declared.class.SignClass.TheVariants as signs
use Rattle.declarations.specs.Reader.{classes_in}
use Rattle.declarations.specs.rules.Names.{G, one}
use Rattle.declarations.specs.rules.Paths.{is_constant}
use Rattle.declarations.proofs.ReaderLemmas.{first_reads, first_sticks, heads_then, other_reads, then_reads}
use Rattle.declarations.proofs.ReaderLemmas.{then_sticks}
use Rattle.declarations.proofs.generic_argument.past_constant.Goals as goal

abbrev minus : G
minus = one signs.Minus

abbrev literal : G
literal = one signs.Literal

pub returns-in_err-past : goal.returns-in_err-past
returns-in_err-past c =
    let p = err_from_is_err_and c.from_residual.result c.from_residual.ensures.1 in
    let left = c.in_err-past.field-0.0.now in
    let begins : heads (Then minus literal) (classes_in c.args.trees.now) ≡ true =
    heads_then minus literal (classes_in c.args.trees.now)
    ∙ rw (sym c.begins.ensures ∙ c.if-begins.true) refl in
    rw (p.1, p.2) (first_sticks (Then minus literal) (Sign is_constant) c.args.trees.now left begins
    (then_sticks minus literal c.args.trees.now left c.in_err-past.ensures))

pub returns-in_ok-past : goal.returns-in_ok-past
returns-in_ok-past c =
    let result = c.past-then-begins.result in
    let begins : heads (Then minus literal) (classes_in c.args.trees.now) ≡ true =
    heads_then minus literal (classes_in c.args.trees.now)
    ∙ rw (sym c.begins.ensures ∙ c.if-begins.true) refl in
    first_reads (Then minus literal) (Sign is_constant) c.args.trees.now result begins
    (then_reads minus literal c.args.trees.now c.in_ok-past.field-0.now result c.in_ok-past.ensures
    c.past-then-begins.ensures)

pub returns-else-begins : goal.returns-else-begins
returns-else-begins c =
    let none : heads (Then minus literal) (classes_in c.args.trees.now) ≡ false =
    heads_then minus literal (classes_in c.args.trees.now)
    ∙ rw (sym c.begins.ensures ∙ c.if-begins.false) refl in
    other_reads (Then minus literal) (Sign is_constant) c.args.trees.now c.plain_constant.result none refl
    c.plain_constant.ensures

use Rattle.std.proofs.Common.{◌∙◌, ◌≡◌, false, refl, sym, true}
use Rattle.std.proofs.lemmas.Result.{err_from_is_err_and}
use Rattle.grammars.specs.First.{heads}
use Rattle.grammars.specs.Grammar.{Then}
use Rattle.item_tables.specs.declared.class.Keyword.TheVariants as keywords
use Rattle.item_tables.specs.declared.class.SignClass.TheVariants as signs
use Rattle.declarations.specs.Reader.{classes_in}
use Rattle.declarations.specs.rules.Names.{G, key, one}
use Rattle.declarations.proofs.ReaderLemmas.{first_reads, first_sticks, heads_then, other_reads, then_reads}
use Rattle.declarations.proofs.ReaderLemmas.{then_sticks}
use Rattle.declarations.proofs.parameter.may_mutate.Goals as goal

abbrev mut : G
mut = key keywords.Mut

abbrev self : G
self = one signs.SelfValue

pub returns-in_err-past : goal.returns-in_err-past
returns-in_err-past c =
    let p = err_from_is_err_and c.from_residual.result c.from_residual.ensures.1 in
    let left = c.in_err-past.field-0.0.now in
    let begins : heads (Then mut self) (classes_in c.args.trees.now) ≡ true =
    heads_then mut self (classes_in c.args.trees.now) ∙ rw (sym c.begins.ensures ∙ c.if-begins.true) refl in
    rw (p.1, p.2) (first_sticks (Then mut self) self c.args.trees.now left begins
    (then_sticks mut self c.args.trees.now left c.in_err-past.ensures))

pub returns-in_ok-past : goal.returns-in_ok-past
returns-in_ok-past c =
    let result = c.past-then-begins.result in
    let begins : heads (Then mut self) (classes_in c.args.trees.now) ≡ true =
    heads_then mut self (classes_in c.args.trees.now) ∙ rw (sym c.begins.ensures ∙ c.if-begins.true) refl in
    first_reads (Then mut self) self c.args.trees.now result begins
    (then_reads mut self c.args.trees.now c.in_ok-past.field-0.now result c.in_ok-past.ensures
    c.past-then-begins.ensures)

pub returns-else-begins : goal.returns-else-begins
returns-else-begins c =
    let none : heads (Then mut self) (classes_in c.args.trees.now) ≡ false =
    heads_then mut self (classes_in c.args.trees.now) ∙ rw (sym c.begins.ensures ∙ c.if-begins.false) refl in
    other_reads (Then mut self) self c.args.trees.now c.past-else-begins.result none refl c.past-else-begins.ensures

use Rattle.std.proofs.Common.{◌∙◌, refl, sym}
use Rattle.declarations.specs.Syntax.{guarded_rule}
use Rattle.declarations.proofs.ReaderLemmas.{heads_none, heads_sign}
use Rattle.declarations.proofs.SyntaxLemmas.{guard_none, guard_sees}
use Rattle.declarations.proofs.explore.see_guarded.Goals as goal

pub returns-then-contains : goal.returns-then-contains
returns-then-contains c =
    guard_sees c.args.guard c.args.trees.now c.in-Some.field-0-1.now c.in-Some.class c.first_of-first.result
    c.table_of.result c.see_table.result c.in-Some.ensures c.first_of-first.ensures
    (sym c.contains.ensures ∙ c.if-contains.true) c.table_of.ensures c.see_table.ensures

pub returns-else-contains : goal.returns-else-contains
returns-else-contains c =
    guard_none c.args.guard c.args.trees.now (record { left = c.args.trees; next = c.first_of-first.result })
    (heads_sign (guarded_rule c.args.guard) c.args.trees.now c.in-Some.field-0-1.now c.in-Some.class c.in-Some.ensures
    ∙ (sym (c.first_of-first.ensures.classes c.in-Some.class) ∙ (sym c.contains.ensures ∙ c.if-contains.false))) refl
    c.first_of-first.ensures

pub returns-in-None : goal.returns-in-None
returns-in-None c =
    guard_none c.args.guard c.args.trees.now (record { left = c.args.trees; next = c.first_of-first.result })
    (heads_none (guarded_rule c.args.guard) c.args.trees.now c.in-None.ensures) refl c.first_of-first.ensures

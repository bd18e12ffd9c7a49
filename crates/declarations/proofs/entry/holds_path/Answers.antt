use Rattle.std.proofs.Common.{◌∙◌, arith, refl, sym}
use Rattle.declarations.proofs.EntryExpectsLemmas.{path_longer, path_same}
use Rattle.declarations.proofs.entry.holds_path.Goals as goal

pub returns-then-rest-after : goal.returns-then-rest-after
returns-then-rest-after c = λ held goes.
    path_longer held.kind held c.args.entry.now c.args.after.now c.args.rest.now goes c.if-rest-after.true

pub returns : goal.returns
returns c = λ held goes.
    path_same held.kind held c.args.entry.now c.args.after.now c.args.rest.now refl goes
    (λ less. let not = c.if-rest-after.false in omega arith) ∙ sym c.is_path.ensures

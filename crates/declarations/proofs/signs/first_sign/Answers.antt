use Rattle.std.proofs.Common.{◌≡◌, None, Some, sym, subst}
use Rattle.std.proofs.lemmas.List.{nil_from_length}
use Rattle.declarations.specs.Signs.{BeginsWith, pair_class}
use Rattle.declarations.proofs.SignLemmas.{begins_last, begins_one, begins_two}
use Rattle.declarations.proofs.signs.first_sign.Goals as goal

pub returns-in-Some-pair_class : goal.returns-in-Some-pair_class
returns-in-Some-pair_class c =
    let pair : pair_class c.in_ok-first.first.now c.in-Some.second.now ≡ Some c.in-Some-pair_class.class = cc in
    begins_two c.args.trees.now c.in-Some-pair_class.class c.in-Some.after.now c.in_ok-first.first.now
    c.in-Some.second.now c.in_ok-first.rest.now c.in_ok-first.ensures.cases.0 c.in-Some.ensures.cases.0 pair

pub returns-in-None : goal.returns-in-None
returns-in-None c =
    let trees = c.args.trees.now in
    let rest = c.in_ok-first.rest.now in
    let pair : pair_class c.in_ok-first.first.now c.in-Some.second.now ≡ None = cc in
    subst (λ class. BeginsWith trees class rest) (sym c.tree_class-in-None.ensures)
    (begins_one trees rest c.in_ok-first.first.now c.in-Some.second.now c.in-Some.after.now
    c.in_ok-first.ensures.cases.0 c.in-Some.ensures.cases.0 pair)

pub returns-in_err-first : goal.returns-in_err-first
returns-in_err-first c = rw c.from_residual.ensures (nil_from_length c.args.trees.now c.in_err-first.ensures.cases)

pub returns-in_default : goal.returns-in_default
returns-in_default c =
    subst (λ class. BeginsWith c.args.trees.now class c.in_ok-first.rest.now) (sym c.tree_class.ensures)
    (begins_last c.args.trees.now c.in_ok-first.rest.now c.in_ok-first.first.now c.in_ok-first.ensures.cases.0
    c.in_default.ensures.cases)

use Rattle.std.proofs.Common.{◌≡◌, ◌∙◌, false, is_some, true}
use Rattle.item_tables.specs.Walk.{ends, step}
use Rattle.declarations.proofs.ExpectedLemmas.{any_class}
use Rattle.declarations.proofs.walk.steps_from.Goals as goal

pub returns-then-may_end : goal.returns-then-may_end
returns-then-may_end c =
    let yes : ends c.args.place ≡ true = cc in
    record {
      classes = λ x.
          c.with_end.ensures.classes x
          ∙ (c.steps_among-found.ensures.classes x ∙ any_class (λ y. is_some (step c.args.place y)) x);
      end = rw yes c.with_end.ensures.end;
    }

pub returns-else-may_end : goal.returns-else-may_end
returns-else-may_end c =
    let not : ends c.args.place ≡ false = cc in
    record {
      classes = λ x. c.steps_among-found.ensures.classes x ∙ any_class (λ y. is_some (step c.args.place y)) x;
      end = rw not c.steps_among-found.ensures.end;
    }

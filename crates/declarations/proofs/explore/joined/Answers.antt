use Rattle.std.proofs.Common.{◌∙◌, ◌||◌, ap, refl, arith}
use Rattle.declarations.specs.Expected.{holds, holds_end}
use Rattle.declarations.proofs.ExploreLemmas.{then_both, then_second}
use Rattle.declarations.proofs.explore.joined.Goals as goal

pub returns-then-second-first : goal.returns-then-second-first
returns-then-second-first c = λ a b trees e h d.
    then_second a b trees c.args.first e c.args.second h d c.if-second-first.true

pub returns-else-second-first : goal.returns-else-second-first
returns-else-second-first c = λ a b trees e h d.
    let second = c.args.second in
    let not = c.if-second-first.false in
    then_both a b trees c.args.first e second (record { left = second.left; next = c.both.result }) h d (omega arith)
    refl
    (record {
      classes = λ x.
          c.both.ensures.classes x ∙ ap (λ y. y || holds second.next x) (c.without_end.ensures.classes x);
      end = c.both.ensures.end ∙ ap (λ y. y || holds_end second.next) c.without_end.ensures.end;
    })

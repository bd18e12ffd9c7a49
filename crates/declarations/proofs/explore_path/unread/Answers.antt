use Rattle.std.proofs.Common.{◌≡◌, ◌∙◌, ◌||◌, false, refl}
use Rattle.item_tables.specs.declared.class.SignClass.{SignClass}
use Rattle.declarations.specs.Expected.{holds, holds_end}
use Rattle.declarations.specs.Syntax.{test_of}
use Rattle.declarations.proofs.explore_path.unread.Goals.{else-may_end, then-may_end}
use Rattle.declarations.proofs.explore_path.unread.Goals as goal

pub returns-clause-next : goal.returns-clause-next
returns-clause-next c =
    let first = c.no_sign-3.ensures.next in
    let second = c.no_sign.ensures.next in
    let third = c.no_sign-2.ensures.next in
    let classes : (x : SignClass) → holds c.both-next.result x
    ≡ (test_of c.args.first x || (test_of c.args.second x || test_of c.args.third x)) =
    λ x. rw (
      c.both-next.ensures.classes x,
      first.classes x,
      c.both-second.ensures.classes x,
      second.classes x,
      third.classes x,
    ) refl in
    let end : holds_end c.both-next.result ≡ false =
    rw (c.both-next.ensures.end, first.end, c.both-second.ensures.end, second.end, third.end) refl in
    elim c.if-may_end.branch [
      | then-may_end w ↦ rw (w.result-is, w.if-may_end.true)
          (record { classes = λ x. w.with_end.ensures.classes x ∙ classes x; end = w.with_end.ensures.end })
      | else-may_end w ↦ rw (w.result-is, w.if-may_end.false) (record { classes = classes; end = end })
    ]

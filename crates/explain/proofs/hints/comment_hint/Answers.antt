use Rattle.std.proofs.Common.{◌∙◌, ◌++◌, ap, arith, codes, length, length-append, subst, sym}
use Rattle.std.specs.Str.{chars}
use Rattle.lexical.specs.Comment.{BlockComment}
use Rattle.lexical.specs.Form.{HasNone}
use Rattle.lexical.proofs.TextLemmas.{seam_boundary, seam_drop}
use Rattle.explain.specs.HintWalk.{LeftComments}
use Rattle.explain.proofs.ExplainingLemmas.{whole_past}
use Rattle.explain.proofs.HintLemmas.{comments_reason, last_reason}
use Rattle.explain.proofs.hints.comment_hint.Goals as goal

pub range_from-requires : goal.range_from-requires
range_from-requires c =
    let is = c.requires.stands in
    λ _. seam_boundary c.args.text.now is.0 (codes "/*" ++ is.1) c.args.at.start c.utf8.text is.2 is.3.start

pub open_comments-requires-clause-opens : goal.open_comments-requires-clause-opens
open_comments-requires-clause-opens c =
    let is = c.requires.stands in (
      is.1,
      ap chars (c.new-start.ensures.rest ∙ c.range_from.ensures.value)
          ∙ seam_drop c.args.text.now is.0 (codes "/*" ++ is.1) c.args.at.start c.utf8.text is.2 is.3.start,
    )

pub open_comments-requires-clause-none : goal.open_comments-requires-clause-none
open_comments-requires-clause-none c =
    let is = c.requires.stands in
    subst (HasNone BlockComment)
    (sym (ap chars (c.new-start.ensures.rest ∙ c.range_from.ensures.value)
    ∙ seam_drop c.args.text.now is.0 (codes "/*" ++ is.1) c.args.at.start c.utf8.text is.2 is.3.start)) is.4

pub between-requires-clause-from : goal.between-requires-clause-from
between-requires-clause-from c =
    let is = c.requires.stands in
    let known_reason = subst (LeftComments c.new-start.result c.in_ok-depth.depth) c.in-Some.is c.in_ok-depth.ensures in
    let same = ap chars (c.new-start.ensures.rest ∙ c.range_from.ensures.value)
    ∙ seam_drop c.args.text.now is.0 (codes "/*" ++ is.1) c.args.at.start c.utf8.text is.2 is.3.start in (
      is.0 ++ known_reason.1.before.part,
      whole_past (chars c.args.text.now) (codes "/*" ++ is.1) (chars c.in-Some.from.rest.now) is.0
          known_reason.1.before.part
          is.2 (sym same ∙ known_reason.1.before.whole),
    )

pub between-requires-clause-to : goal.between-requires-clause-to
between-requires-clause-to c =
    (subst (LeftComments c.new-start.result c.in_ok-depth.depth) c.in-Some.is c.in_ok-depth.ensures).1.comment

pub between-requires-clause-room : goal.between-requires-clause-room
between-requires-clause-room c =
    let is = c.requires.stands in
    let known_reason = (subst (LeftComments c.new-start.result c.in_ok-depth.depth) c.in-Some.is
    c.in_ok-depth.ensures).1 in
    let same = ap chars (c.new-start.ensures.rest ∙ c.range_from.ensures.value)
    ∙ seam_drop c.args.text.now is.0 (codes "/*" ++ is.1) c.args.at.start c.utf8.text is.2 is.3.start in
    omega (
      arith,
      c.requires.fits,
      ap (λ p. p.0) c.bounds-lo.ensures.value,
      ap (λ s. s.lo) is.3.span,
      ap length is.2,
      length-append is.0 (codes "/*" ++ is.1),
      ap length (sym same ∙ known_reason.before.whole),
      length-append known_reason.before.part (chars c.in-Some.from.rest.now),
      ap length known_reason.comment.whole,
      length-append known_reason.comment.part (chars c.in-Some.to.rest.now),
      known_reason.before.count,
      known_reason.comment.count,
      c.new-start.ensures.chars,
    )

pub returns-in_default : goal.returns-in_default
returns-in_default c = λ text_before more whole at.
    let same = ap chars (c.new-start.ensures.rest ∙ c.range_from.ensures.value)
    ∙ seam_drop c.args.text.now text_before (codes "/*" ++ more) c.args.at.start c.utf8.text whole at.start in
    comments_reason 1 text_before (codes "/*" ++ more) c.new-start.result same c.in_ok-depth.depth
    (subst (LeftComments c.new-start.result c.in_ok-depth.depth) c.in_default.is c.in_ok-depth.ensures)

pub returns : goal.returns
returns c = λ text_before more whole at.
    let same = ap chars (c.new-start.ensures.rest ∙ c.range_from.ensures.value)
    ∙ seam_drop c.args.text.now text_before (codes "/*" ++ more) c.args.at.start c.utf8.text whole at.start in
    let all = subst (LeftComments c.new-start.result c.in_ok-depth.depth) c.in-Some.is c.in_ok-depth.ensures in
    let known_reason = all.1 in
    last_reason 1 text_before (codes "/*" ++ more) c.new-start.result same c.in_ok-depth.depth c.in-Some.from
    c.in-Some.to
    c.between.result all
    (c.between.ensures 1 (text_before ++ known_reason.before.part) known_reason.comment.part
    (whole_past (chars c.args.text.now) (codes "/*" ++ more) (chars c.in-Some.from.rest.now) text_before
    known_reason.before.part
    whole (sym same ∙ known_reason.before.whole))
    known_reason.comment.whole
    (omega (
      arith,
      ap (λ p. p.0) c.bounds-lo.ensures.value,
      ap (λ s. s.lo) at.span,
      length-append text_before known_reason.before.part,
      known_reason.before.count,
      c.new-start.ensures.chars,
    )) known_reason.comment.count)

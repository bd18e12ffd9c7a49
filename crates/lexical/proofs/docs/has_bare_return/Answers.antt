use Rattle.std.proofs.Common.{not, ◌||◌, arith, ap, sym, refl, length, ◌∙◌}
use Rattle.std.specs.Str.{chars}
use Rattle.lexical.specs.Comment.{has_bare_return as bare}
use Rattle.lexical.proofs.ReturnLemmas.{at_next, at_return, rest_within}
use Rattle.lexical.proofs.docs.has_bare_return.Goals as goal

pub loop-after-init : goal.loop-after-init
loop-after-init c = (
  c.from_first-rest.utf8,
  at_next (chars c.args.text.now) (chars c.args.text.now) (chars c.from_first-rest.result.now) refl
      c.from_first-rest.ensures.rest,
)

pub loop-after-smaller : goal.loop-after-smaller
loop-after-smaller c =
    omega (
      arith,
      ap length c.in-Some.ensures.split,
      ap length c.from_first-rest-in-Some.ensures.rest,
      rest_within (chars c.in-Some.after.now),
    )

pub loop-after-preserved : goal.loop-after-preserved
loop-after-preserved c =
    let after = chars c.in-Some.after.now in
    let here = at_return c.in-Some.field-0-0 after (chars c.loop-after.rest.now) c.in-Some.ensures.split
    c.loop-after.invariant.1.stands in
    let rest = ap (λ b. not b || bare after) (sym c.begins.ensures ∙ c.if-not-begins.false) in (
      c.from_first-rest-in-Some.utf8,
      at_next (chars c.args.text.now) after (chars c.from_first-rest-in-Some.result.now)
          (sym (here ∙ rest) ∙ c.loop-after.invariant.1.same) c.from_first-rest-in-Some.ensures.rest,
    )

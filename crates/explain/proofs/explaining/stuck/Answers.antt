use Rattle.std.proofs.Common.{◌≡◌, ◌++◌, None, sym, ap, ◌∙◌, subst, arith, length-append}
use Rattle.std.specs.Str.{chars}
use Rattle.lexical.specs.PieceFinder.{find_piece}
use Rattle.explain.proofs.ExplainingLemmas.{whole_past}
use Rattle.explain.proofs.StuckLemmas.{none_found}
use Rattle.explain.proofs.explaining.stuck.Goals as goal

pub reason_at-trouble-requires-clause-some : goal.reason_at-trouble-requires-clause-some
reason_at-trouble-requires-clause-some c = λ e. c.requires.some (ap chars (sym c.new-start.ensures.rest) ∙ e)

pub reason_at-trouble-requires-clause-none : goal.reason_at-trouble-requires-clause-none
reason_at-trouble-requires-clause-none c =
    subst (λ t. find_piece c.args.first (chars t) ≡ None) (sym c.new-start.ensures.rest)
    (none_found c.args.first (chars c.args.rest.now) c.requires.none)

pub stretch-requires-2-clause-from : goal.stretch-requires-2-clause-from
stretch-requires-2-clause-from c =
    let known_reason = c.reason_at-trouble.ensures in (
      c.requires.text_before.0 ++ known_reason.front,
      whole_past _ _ _ c.requires.text_before.0 known_reason.front c.requires.text_before.1
          (ap chars (sym c.new-start.ensures.rest) ∙ known_reason.before),
    )

pub returns-clause-stuck : goal.returns-clause-stuck
returns-clause-stuck c = λ base text_before whole place.
    let known_reason = c.reason_at-trouble.ensures in
    let split : chars c.args.rest.now ≡ known_reason.front ++ chars c.reason_at-trouble.result.at.rest.now =
    ap chars (sym c.new-start.ensures.rest) ∙ known_reason.before in
    record {
      none = c.requires.none;
      front = known_reason.front;
      part = known_reason.part;
      after = chars c.reason_at-trouble.result.after.rest.now;
      split = split ∙ ap (λ t. known_reason.front ++ t) known_reason.here;
      holds = known_reason.holds;
      before = c.stretch.ensures base text_before known_reason.front whole split place
          (omega (arith, known_reason.count, c.new-start.ensures.chars));
      at = c.stretch-2.ensures base (text_before ++ known_reason.front) known_reason.part
          (whole_past _ _ _ text_before known_reason.front whole split) known_reason.here
          (omega (
            arith,
            place,
            known_reason.count,
            c.new-start.ensures.chars,
            length-append text_before
                known_reason.front,
          ))
          (omega (arith, known_reason.count, known_reason.size));
    }

use Rattle.std.proofs.Common.{◌≡◌, ◌-◌, ◌∙◌, length, take, sym, ap, subst, arith}
use Rattle.std.specs.Str.{chars}
use Rattle.pm_span.proofs.SeamLemmas.{IsCutBack, back_one, front_of}
use Rattle.pm_span.proofs.text.skip_chars_back.Goals as goal

pub loop-preserved : goal.loop-preserved
loop-preserved c =
    back_one c.loop.front c.next_back.new.self c.next_back.result c.utf8.text c.loop.invariant
    (omega arith) c.next_back.ensures.steps

pub returns-clause-value : goal.returns-clause-value
returns-clause-value c =
    let count : c.loop.counter ≡ c.args.count = omega (arith, c.loop-test.false, c.loop.auto.counter-end) in
    let cut = subst (λ front. IsCutBack c.args.text.now front c.loop.counter) (sym c.as_str.ensures) c.loop.invariant in
    front_of c.utf8.text c.as_str.utf8 cut
    ∙ ap (λ n. take (length (chars c.args.text.now) - n) (chars c.args.text.now)) count

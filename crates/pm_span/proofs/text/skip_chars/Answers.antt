use Rattle.std.proofs.Common.{ap, drop, ◌∙◌}
use Rattle.std.specs.Str.{chars}
use Rattle.std.proofs.lemmas.List.{drop-drop}
use Rattle.pm_span.proofs.SeamLemmas.{past_one}
use Rattle.pm_span.proofs.text.skip_chars.Goals as goal

pub loop-preserved : goal.loop-preserved
loop-preserved c =
    let one = past_one c.loop.rest c.next.new.self c.next.result c.loop.invariant.utf8 c.next.ensures.steps in
    record {
      utf8 = one.0;
      left = one.1 ∙ (ap (drop 1) c.loop.invariant.left ∙ drop-drop 1 c.loop.counter (chars c.args.text.now));
    }

use Rattle.std.proofs.Common.{◌≡◌, ◌∙◌, ◌∷◌, [], ap}
use Rattle.std.specs.Str.{chars}
use Rattle.std.proofs.lemmas.Result.{on_ok_weaker}
use Rattle.rust_check.specs.LineEnds.{found_at_end}
use Rattle.rust_check.specs.Message.{finding_of}
use Rattle.rust_check.proofs.EndsLemmas.{bare, chars_feed, chars_return, mixed_end}
use Rattle.rust_check.proofs.ReportLemmas.{tells_one, tells_same}
use Rattle.rust_check.proofs.ends.tell_end.Goals as goal
use Rattle.rust_check.proofs.ends.tell_end.Goals.{in-13, in-10}

pub returns : goal.returns
returns g c =
    let line_written = c.write_line in
    let all : finding_of c.match-c.finding ∷ []
    ≡ found_at_end c.args.ends c.args.place c.args.c (chars c.args.rest.now) =
    elim c.match-c.branch [
      | in-13 w ↦ ap (λ x. x ∷ []) (ap finding_of w.finding-is ∙ w.odd-finding.ensures)
          ∙ bare c.args.ends c.args.place c.args.c (chars c.args.rest.now) _ w.in-13.is w.begins_feed.ensures
          w.if-not-begins_feed.true chars_return
      | in-10 w ↦ ap (λ x. x ∷ []) (ap finding_of w.finding-is ∙ w.odd-finding-in-10.ensures)
          ∙ mixed_end c.args.ends c.args.place c.args.c (chars c.args.rest.now) _ w.in-10.is w.is_other.ensures
          w.if-is_other.true chars_feed
    ] in
    on_ok_weaker line_written.result
    (λ bytes. tells_same _ _ _ _ _ _ _ _ all (tells_one _ _ _ _ _ c.args.found.now bytes)) line_written.ensures

use Rattle.std.specs.Str.{chars}
use Rattle.std.proofs.lemmas.Result.{on_ok_weaker}
use Rattle.rust_check.proofs.NamesLemmas.{name_report}
use Rattle.rust_check.proofs.report.tell_name.Goals as goal

pub returns : goal.returns
returns g c =
    on_ok_weaker c.tell_if-3.result
    (λ third piece before are.
    let taken = c.in_ok-is_other.ensures before are in
    rw c.in-Name.is (
      name_report _ _ c.args.place (chars c.in-Name.name.now) (chars c.args.text.now) c.in_ok-is_other_form.field-0
          c.is_mixed.result c.in_ok-is_other.is_other _ _ _ before _ _ _ _ _ _ _ _
          c.in_ok-is_other_form.ensures.answer c.is_mixed.ensures taken.0 c.odd-finding.ensures c.odd-finding-2.ensures
          c.odd-finding-3.ensures c.in_ok-tell_if.ensures c.in_ok-tell_if-2.ensures third,
      taken.1,
    )) c.tell_if-3.ensures

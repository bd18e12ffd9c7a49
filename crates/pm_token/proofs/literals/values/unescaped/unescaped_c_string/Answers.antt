use Rattle.std.proofs.Common.{◌≡◌, ◌++◌, ◌∷◌, None, Ok, Err, sym, ap, ◌∙◌, append_assoc, append-nil}
use Rattle.std.specs.List.{flat_map}
use Rattle.std.specs.Str.{chars}
use Rattle.std.proofs.lemmas.Result.{err_from_is_err_and}
use Rattle.literal_escaper.specs.Items.{items}
use Rattle.literal_escaper.specs.Kind.{c_kind}
use Rattle.literal_escaper.specs.Value.{last_fault_or, units_of, value_of, value_or}
use Rattle.pm_token.specs.Value.{bytes_of, c_bytes, unit_bytes, with_zero}
use Rattle.pm_token.proofs.UnescapedLemmas.{answers_fault, answers_memory, answers_value, end_fault}
use Rattle.pm_token.proofs.literals.values.unescaped.unescaped_c_string.Goals as goal

pub returns-in_err-value : goal.returns-in_err-value
returns-in_err-value c =
    let p = err_from_is_err_and c.from_residual.result c.from_residual.ensures.1 in
    answers_memory bytes_of _ c.from_residual.result _ (p.1 ∙ ap Err p.2)

pub loop-unit-preserved-in-Continue-branch-2 : goal.loop-unit-preserved-in-Continue-branch-2
loop-unit-preserved-in-Continue-branch-2 c =
    let before = bytes_of c.loop-unit.value in
    let rest = c.next.new.self in
    let step : c.loop-unit.unit-iterator ≡ (c.in-Some.field-0-0, Ok c.in-Ok.unit) ∷ rest =
    c.in-Some.ensures.steps ∙ ap (λ unit. (c.in-Some.field-0-0, unit) ∷ rest) c.in-Ok.is in record {
      finite = (tt, tt);
      joined = ap (λ bytes. bytes ++ flat_map unit_bytes (units_of rest)) c.in_ok-push_unit-in-Ok.ensures
          ∙ append_assoc before (unit_bytes c.in-Ok.unit) (flat_map unit_bytes (units_of rest))
          ∙ sym (ap (λ left. before ++ flat_map unit_bytes (units_of left)) step) ∙ c.loop-unit.invariant.joined;
      fault = sym (ap (last_fault_or c.loop-unit.fault) step) ∙ c.loop-unit.invariant.fault;
    }

pub loop-unit-preserved : goal.loop-unit-preserved
loop-unit-preserved c =
    let before = bytes_of c.loop-unit.value in
    let rest = c.next.new.self in
    let step : c.loop-unit.unit-iterator ≡ (c.in-Some.field-0-0, Err c.in-Err.e) ∷ rest =
    c.in-Some.ensures.steps ∙ ap (λ unit. (c.in-Some.field-0-0, unit) ∷ rest) c.in-Err.is in record {
      finite = (tt, tt);
      joined = sym (ap (λ left. before ++ flat_map unit_bytes (units_of left)) step) ∙ c.loop-unit.invariant.joined;
      fault = ap (λ fault. last_fault_or fault rest) c.last_fault-fault.ensures
          ∙ sym (ap (last_fault_or c.loop-unit.fault) step) ∙ c.loop-unit.invariant.fault;
    }

pub returns-in_err-push_unit-in-Ok : goal.returns-in_err-push_unit-in-Ok
returns-in_err-push_unit-in-Ok c =
    let failed = c.from_residual-in_err-push_unit-in-Ok in
    let p = err_from_is_err_and failed.result failed.ensures.1 in
    answers_memory bytes_of _ failed.result _ (p.1 ∙ ap Err p.2)

pub returns-in-Some-fault : goal.returns-in-Some-fault
returns-in-Some-fault c =
    let whole = c.into_iter-unit-iterator.ensures.into_iter_gives ∙ c.unescape_c_str-unit-items.ensures.value in
    let all = c.into_iter-unit-iterator.result in
    let last = end_fault all c.loop-unit.unit-iterator c.loop-unit.fault c.in-None.ensures.steps.0
    c.loop-unit.invariant.fault in
    answers_fault bytes_of (c_bytes (value_of (items c_kind (chars c.args.content.now)))) c.from.result
    c.in-Some-fault.fault
    (sym (ap (λ left. c_bytes (value_of left)) whole)
    ∙ ap (λ fault. c_bytes (value_or fault (units_of all))) (last ∙ c.in-Some-fault.is)) c.from.ensures

pub returns-in_err-push : goal.returns-in_err-push
returns-in_err-push c =
    let failed = c.from_residual-in_err-push in
    let p = err_from_is_err_and failed.result failed.ensures.1 in
    answers_memory bytes_of _ failed.result _ (p.1 ∙ ap Err p.2)

pub returns : goal.returns
returns c =
    let whole = c.into_iter-unit-iterator.ensures.into_iter_gives ∙ c.unescape_c_str-unit-items.ensures.value in
    let all = c.into_iter-unit-iterator.result in
    let none : c.loop-unit.fault ≡ None = c.in_default.is in
    let last = end_fault all c.loop-unit.unit-iterator c.loop-unit.fault c.in-None.ensures.steps.0
    c.loop-unit.invariant.fault in
    let bytes = bytes_of c.loop-unit.value in
    let joined = sym c.loop-unit.invariant.joined
    ∙ ap (λ left. bytes ++ flat_map unit_bytes (units_of left)) c.in-None.ensures.steps.0 ∙ append-nil bytes in
    answers_value bytes_of (c_bytes (value_of (items c_kind (chars c.args.content.now)))) c.push.new.self
    (sym (ap (λ left. c_bytes (value_of left)) whole)
    ∙ ap (λ fault. c_bytes (value_or fault (units_of all))) (last ∙ none)
    ∙ ap (λ before. Ok (with_zero before)) joined ∙ ap Ok (sym c.in_ok-push.ensures.items))

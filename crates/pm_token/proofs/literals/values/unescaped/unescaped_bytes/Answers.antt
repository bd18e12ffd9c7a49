use Rattle.std.proofs.Common.{◌≡◌, ◌++◌, ◌∷◌, [], Ok, Err, sym, ap, ◌∙◌, append_assoc}
use Rattle.std.specs.Str.{chars}
use Rattle.std.proofs.lemmas.Result.{err_from_is_err_and}
use Rattle.literal_escaper.specs.Items.{items}
use Rattle.literal_escaper.specs.Kind.{byte_kind}
use Rattle.literal_escaper.specs.Value.{last_fault_or, units_of, value_of, value_or}
use Rattle.pm_token.specs.Value.{bytes_of}
use Rattle.pm_token.proofs.UnescapedLemmas.{answers_fault, answers_memory, answers_value}
use Rattle.pm_token.proofs.UnescapedLemmas.{end_value, not_empty, not_faulty}
use Rattle.pm_token.proofs.literals.values.unescaped.unescaped_bytes.Goals as goal

pub loop-unit-preserved-in-Continue-1 : goal.loop-unit-preserved-in-Continue-1
loop-unit-preserved-in-Continue-1 c =
    let before = bytes_of c.loop-unit.value in
    let rest = c.next.new.self in
    let step : c.loop-unit.unit-iterator ≡ (c.in-Some.field-0-0, Ok c.in-Ok.byte) ∷ rest =
    c.in-Some.ensures.steps ∙ ap (λ unit. (c.in-Some.field-0-0, unit) ∷ rest) c.in-Ok.is in record {
      finite = (tt, tt);
      joined = ap (λ cs. cs ++ units_of rest) c.in_ok-push-in-Ok.ensures.items
          ∙ append_assoc before (c.in-Ok.byte ∷ []) (units_of rest)
          ∙ sym (ap (λ left. before ++ units_of left) step) ∙ c.loop-unit.invariant.joined;
      fault = sym (ap (last_fault_or c.loop-unit.fault) step) ∙ c.loop-unit.invariant.fault;
    }

pub loop-unit-preserved : goal.loop-unit-preserved
loop-unit-preserved c =
    let rest = c.next.new.self in
    let step : c.loop-unit.unit-iterator ≡ (c.in-Some.field-0-0, Err c.in-Err.e) ∷ rest =
    c.in-Some.ensures.steps ∙ ap (λ unit. (c.in-Some.field-0-0, unit) ∷ rest) c.in-Err.is in record {
      finite = (tt, tt);
      joined = sym (ap (λ left. bytes_of c.loop-unit.value ++ units_of left) step) ∙ c.loop-unit.invariant.joined;
      fault = ap (λ fault. last_fault_or fault rest) c.last_fault-fault.ensures
          ∙ sym (ap (last_fault_or c.loop-unit.fault) step) ∙ c.loop-unit.invariant.fault;
    }

pub returns-in_err-push-in-Ok-clause-value : goal.returns-in_err-push-in-Ok-clause-value
returns-in_err-push-in-Ok-clause-value c =
    let p = err_from_is_err_and c.from_residual.result c.from_residual.ensures.1 in
    answers_memory bytes_of _ c.from_residual.result _ (p.1 ∙ ap Err p.2)

pub returns-in_err-push-in-Ok-clause-memory : goal.returns-in_err-push-in-Ok-clause-memory
returns-in_err-push-in-Ok-clause-memory c empty =
    let whole = c.into_iter-unit-iterator.ensures.into_iter_gives ∙ c.unescape_byte_str-unit-items.ensures.value in
    absurd (not_empty c.into_iter-unit-iterator.result c.loop-unit.unit-iterator c.next.new.self c.in-Some.field-0-0
    c.in-Ok.byte (bytes_of c.loop-unit.value)
    (c.in-Some.ensures.steps ∙ ap (λ unit. (c.in-Some.field-0-0, unit) ∷ c.next.new.self) c.in-Ok.is)
    c.loop-unit.invariant.joined (ap value_of whole ∙ empty))

pub returns-in-None-fault-clause-value : goal.returns-in-None-fault-clause-value
returns-in-None-fault-clause-value c =
    let whole = c.into_iter-unit-iterator.ensures.into_iter_gives ∙ c.unescape_byte_str-unit-items.ensures.value in
    let value = end_value c.into_iter-unit-iterator.result c.loop-unit.unit-iterator c.loop-unit.fault
    (bytes_of c.loop-unit.value) c.in-None.ensures.steps.0 c.loop-unit.invariant.joined c.loop-unit.invariant.fault in
    answers_value bytes_of (value_of (items byte_kind (chars c.args.content.now))) c.loop-unit.value
    (sym (ap value_of whole) ∙ value ∙ ap (λ fault. value_or fault (bytes_of c.loop-unit.value)) c.in-None-fault.is)

pub returns-in-Some-fault-clause-value : goal.returns-in-Some-fault-clause-value
returns-in-Some-fault-clause-value c =
    let whole = c.into_iter-unit-iterator.ensures.into_iter_gives ∙ c.unescape_byte_str-unit-items.ensures.value in
    let value = end_value c.into_iter-unit-iterator.result c.loop-unit.unit-iterator c.loop-unit.fault
    (bytes_of c.loop-unit.value) c.in-None.ensures.steps.0 c.loop-unit.invariant.joined c.loop-unit.invariant.fault in
    answers_fault bytes_of (value_of (items byte_kind (chars c.args.content.now))) c.from.result c.in-Some-fault.fault
    (sym (ap value_of whole) ∙ value ∙ ap (λ fault. value_or fault (bytes_of c.loop-unit.value)) c.in-Some-fault.is)
    c.from.ensures

pub returns-in-Some-fault-clause-memory : goal.returns-in-Some-fault-clause-memory
returns-in-Some-fault-clause-memory c empty =
    let whole = c.into_iter-unit-iterator.ensures.into_iter_gives ∙ c.unescape_byte_str-unit-items.ensures.value in
    let value = end_value c.into_iter-unit-iterator.result c.loop-unit.unit-iterator c.loop-unit.fault
    (bytes_of c.loop-unit.value) c.in-None.ensures.steps.0 c.loop-unit.invariant.joined c.loop-unit.invariant.fault in
    absurd (not_faulty c.loop-unit.fault (bytes_of c.loop-unit.value) c.in-Some-fault.fault c.in-Some-fault.is
    (sym value ∙ ap value_of whole ∙ empty))

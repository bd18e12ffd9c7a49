use Rattle.std.proofs.Common.{◌≡◌, length, get_or, ap, sym, ◌∙◌, arith}
use Rattle.std.specs.List.{prefix_len}
use Rattle.std.proofs.lemmas.Str.{IsCharBoundary-after_ascii}
use Rattle.pm_span.specs.Plain.{is_plain}
use Rattle.pm_span.proofs.PlainLemmas.{all_plain, plain_line, plain_count}
use Rattle.pm_span.proofs.text.first_line.Goals as goal

pub range_from-requires : goal.range_from-requires
range_from-requires c =
    let look = c.in-Some-eq10.ensures.lookup.3 in
    let text = c.args.text.now in
    let n = c.count_plain-plain.result in
    let same = c.as_bytes-2.ensures.value in
    let here : get_or text n 0 ≡ 10 =
    ap (λ xs. get_or xs n 0) (sym same) ∙ (sym (look.1 0) ∙ c.in-Some-eq10.field-0-test) in
    λ some. IsCharBoundary-after_ascii text n c.utf8.text (omega (arith, look.0, ap length same)) (omega (arith, here))

pub returns-in-None-clause-split : goal.returns-in-None-clause-split
returns-in-None-clause-split c =
    (all_plain c.args.text.now c.count_plain-plain.result
    (c.count_plain-plain.ensures ∙ ap (prefix_len is_plain) c.as_bytes.ensures.value)
    (omega (arith, c.in-None.ensures.lookup.3, ap length c.as_bytes-2.ensures.value))).0

pub returns-in-None-clause-count : goal.returns-in-None-clause-count
returns-in-None-clause-count c =
    (all_plain c.args.text.now c.count_plain-plain.result
    (c.count_plain-plain.ensures ∙ ap (prefix_len is_plain) c.as_bytes.ensures.value)
    (omega (arith, c.in-None.ensures.lookup.3, ap length c.as_bytes-2.ensures.value))).1

pub returns-in-Some-eq10-clause-split : goal.returns-in-Some-eq10-clause-split
returns-in-Some-eq10-clause-split c =
    let look = c.in-Some-eq10.ensures.lookup.3 in
    let text = c.args.text.now in
    let n = c.count_plain-plain.result in
    let same = c.as_bytes-2.ensures.value in
    let here : get_or text n 0 ≡ 10 =
    ap (λ xs. get_or xs n 0) (sym same) ∙ (sym (look.1 0) ∙ c.in-Some-eq10.field-0-test) in
    plain_line text c.range.result.now c.range_from.result.now n c.utf8.text
    (c.count_plain-plain.ensures ∙ ap (prefix_len is_plain) c.as_bytes.ensures.value)
    (omega (arith, look.0, ap length same)) here c.range.ensures.value c.range_from.ensures.value

pub returns-in-Some-eq10-clause-count : goal.returns-in-Some-eq10-clause-count
returns-in-Some-eq10-clause-count c =
    let look = c.in-Some-eq10.ensures.lookup.3 in
    let text = c.args.text.now in
    let n = c.count_plain-plain.result in
    let same = c.as_bytes-2.ensures.value in
    let here : get_or text n 0 ≡ 10 =
    ap (λ xs. get_or xs n 0) (sym same) ∙ (sym (look.1 0) ∙ c.in-Some-eq10.field-0-test) in
    plain_count text c.range.result.now c.range_from.result.now n c.utf8.text
    (c.count_plain-plain.ensures ∙ ap (prefix_len is_plain) c.as_bytes.ensures.value)
    (omega (arith, look.0, ap length same)) here c.range.ensures.value c.range_from.ensures.value

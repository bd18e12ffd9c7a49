use Rattle.std.proofs.Common.{◌≡◌, ◌-◌, ℕ, ap, ap₂, ◌∙◌, arith}
use Rattle.std.specs.declared.ops.Range.{Range}
use Rattle.pm_span.specs.CharOffset.{byte_offset}
use Rattle.pm_span.proofs.ConsecutiveLemmas.{found_none, found_some, holds_at, of_each, byte_offset-nil}
use Rattle.pm_span.proofs.source_map.SourceMap.byte_range.Goals as goal

abbrev range_of : ℕ → ℕ → Range ℕ
range_of j k = record { start = j; end = k }

pub byte_range-requires-clause-within : goal.byte_range-requires-clause-within
byte_range-requires-clause-within c =
    let lo = ap (λ p. p.0) c.bounds-lo.ensures.value in
    let hi = ap (λ p. p.1) c.bounds-lo.ensures.value in
    let found = found_some lo c.in-Some.is c.file_of.ensures.found in
    omega (arith, (holds_at c.args.span found c.bounds-lo.ensures.ordered).1 c.requires, hi, c.lo-in-Some.ensures)

pub returns-in-None : goal.returns-in-None
returns-in-None c = λ text lo file.
    of_each c.args.span
    (λ n t l. range_of 0 0 ≡ range_of (byte_offset t (c.args.span.lo - l)) (byte_offset t (c.args.span.hi - l)))
    (found_none (ap (λ p. p.0) c.bounds-lo.ensures.value) c.in-None.is c.file_of.ensures.found)
    c.bounds-lo.ensures.ordered
    (ap₂ range_of (byte_offset-nil (c.args.span.lo - 0)) (byte_offset-nil (c.args.span.hi - 0))) text lo file

pub returns-in-Some : goal.returns-in-Some
returns-in-Some c = λ text lo file.
    let first = ap (λ p. p.0) c.bounds-lo.ensures.value in
    let last = ap (λ p. p.1) c.bounds-lo.ensures.value in
    let own = c.in-Some.file.now.text in
    let start = c.byte_range.ensures.start ∙ ap₂ (λ p l. byte_offset own (p - l)) first c.lo.ensures in
    let end = c.byte_range.ensures.end ∙ ap₂ (λ p l. byte_offset own (p - l)) last c.lo-in-Some.ensures in
    of_each c.args.span (λ n t l. c.byte_range.result
    ≡ range_of (byte_offset t (c.args.span.lo - l)) (byte_offset t (c.args.span.hi - l)))
    (found_some first c.in-Some.is c.file_of.ensures.found) c.bounds-lo.ensures.ordered (ap₂ range_of start end)
    text lo file

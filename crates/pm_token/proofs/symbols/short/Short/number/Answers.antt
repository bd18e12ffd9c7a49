use Rattle.std.proofs.Common.{sym, ◌∙◌, subst, arith, rules, IsUtf8}
use Rattle.pm_token.proofs.ShortLemmas.{number_short, number_holds, number_utf8}
use Rattle.pm_token.proofs.symbols.short.Short.number.Goals as goal

pub overflow_add-digits_end : goal.overflow_add-digits_end
overflow_add-digits_end c =
    omega (arith, number_short _ _ _ _ c.ranges.value.fits c.from-start.ensures c.count_digits.ensures)

pub overflow_sub-digits_end : goal.overflow_sub-digits_end
overflow_sub-digits_end c =
    omega (arith, number_short _ _ _ _ c.ranges.value.fits c.from-start.ensures c.count_digits.ensures)

pub overflow_add-end : goal.overflow_add-end
overflow_add-end c =
    let short = number_short _ _ _ _ c.ranges.value.fits c.from-start.ensures c.count_digits.ensures in
    search rules

pub write_digits-requires : goal.write_digits-requires
write_digits-requires c =
    let short = number_short _ _ _ _ c.ranges.value.fits c.from-start.ensures c.count_digits.ensures in
    (omega (arith, c.count_digits.ensures), omega (arith, short))

pub invariant_of-result : goal.invariant_of-result
invariant_of-result c =
    let short = number_short _ _ _ _ c.ranges.value.fits c.from-start.ensures c.count_digits.ensures in
    let holds = number_holds _ _ _ _ _ _ _ _ c.ranges.value.fits c.from-start.ensures c.count_digits.ensures
    c.write_digits.ensures.start c.write_digits.ensures.before c.write_digits.ensures.written
    c.write_digits.auto.buf (c.copy_from_slice.ensures.after ∙ c.as_bytes.ensures.value) in (
      search rules,
      ∣ subst IsUtf8 (sym holds.front)
          (number_utf8 c.args.negative c.args.value _ c.ranges.value.fits c.utf8.suffix) ∣₁,
      holds.rest,
    )

pub returns : goal.returns
returns c = (number_holds _ _ _ _ _ _ _ _ c.ranges.value.fits c.from-start.ensures c.count_digits.ensures
    c.write_digits.ensures.start c.write_digits.ensures.before c.write_digits.ensures.written
    c.write_digits.auto.buf (c.copy_from_slice.ensures.after ∙ c.as_bytes.ensures.value)).front

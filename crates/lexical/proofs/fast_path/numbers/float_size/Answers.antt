use Rattle.std.proofs.Common.{◌+◌, ◌-◌, length, take, drop, ap, arith, length-drop}
use Rattle.std.proofs.lemmas.List.{take_rest}
use Rattle.lexical.specs.declared.bytes.Class.TheVariants as classes
use Rattle.lexical.proofs.FastNumberLemmas.{float_read, byte_followed, byte_within, run_within}
use Rattle.lexical.proofs.fast_path.numbers.float_size.Goals as goal

pub slice_bounds-fraction_end_size-count : goal.slice_bounds-fraction_end_size-count
slice_bounds-fraction_end_size-count c = run_within classes.DigitOrUnderscore _ _ c.count_ascii-fraction.ensures

pub slice_bounds-fraction_end_size-start : goal.slice_bounds-fraction_end_size-start
slice_bounds-fraction_end_size-start c = run_within classes.DigitOrUnderscore _ _ c.count_ascii-fraction.ensures

pub overflow_add-result-2 : goal.overflow_add-result-2
overflow_add-result-2 c =
    let bytes = c.args.bytes.now in
    let digits = c.args.digits in
    let inside = take (length bytes - (digits + 1)) (drop (digits + 1) bytes) in
    omega (
      arith,
      byte_within bytes digits _ 46 c.byte_at.ensures c.if-byte_at-ne46.false (λ e. omega (arith, e)),
      run_within classes.DigitOrUnderscore inside _ c.count_ascii-fraction.ensures,
      ap length (take_rest bytes (digits + 1)),
      length-drop (digits + 1) bytes,
    )

pub overflow_add-result-3 : goal.overflow_add-result-3
overflow_add-result-3 c =
    let bytes = c.args.bytes.now in
    let digits = c.args.digits in
    let fraction = c.count_ascii-fraction.result in
    let inside = take (length bytes - (digits + 1)) (drop (digits + 1) bytes) in
    omega (
      arith,
      byte_within bytes digits _ 46 c.byte_at.ensures c.if-byte_at-ne46.false (λ e. omega (arith, e)),
      run_within classes.DigitOrUnderscore inside _ c.count_ascii-fraction.ensures,
      c.in_ok-end.ensures.end.within,
      ap length (take_rest inside fraction),
      length-drop fraction inside,
      ap length (take_rest bytes (digits + 1)),
      length-drop (digits + 1) bytes,
    )

pub returns : goal.returns
returns c =
    let bytes = c.args.bytes.now in
    let digits = c.args.digits in
    let inside = take (length bytes - (digits + 1)) (drop (digits + 1) bytes) in
    float_read bytes inside _ digits c.byte_at.result c.byte_at-next.result c.count_ascii-fraction.result
    c.in_ok-end.end c.requires.first c.requires.count c.byte_at.ensures c.if-byte_at-ne46.false
    (take_rest bytes (digits + 1)) c.byte_at-next.ensures c.if-not-is_ascii.ensures c.if-holds_ascii.ensures
    c.count_ascii-fraction.ensures (take_rest inside c.count_ascii-fraction.result) c.in_ok-end.ensures.end
    c.in_ok-end.ensures.ascii

pub slice_bounds-after-count : goal.slice_bounds-after-count
slice_bounds-after-count c =
    byte_followed c.args.bytes.now c.args.digits _ 46 c.byte_at.ensures c.if-byte_at-ne46.false
    (λ e. omega (arith, e))

pub returns-in_err-end : goal.returns-in_err-end
returns-in_err-end c = rw c.from_residual.ensures tt

pub slice_bounds-after-start : goal.slice_bounds-after-start
slice_bounds-after-start c =
    byte_followed c.args.bytes.now c.args.digits _ 46 c.byte_at.ensures c.if-byte_at-ne46.false
    (λ e. omega (arith, e))

pub overflow_add-after : goal.overflow_add-after
overflow_add-after c =
    omega (
      arith,
      byte_within c.args.bytes.now c.args.digits _ 46 c.byte_at.ensures c.if-byte_at-ne46.false
          (λ e. omega (arith, e)),
    )

pub overflow_add-result : goal.overflow_add-result
overflow_add-result c =
    omega (
      arith,
      byte_within c.args.bytes.now c.args.digits _ 46 c.byte_at.ensures c.if-byte_at-ne46.false
          (λ e. omega (arith, e)),
    )

use Rattle.std.proofs.Common.{◌-◌, length, take, drop, ap, arith, length-drop}
use Rattle.std.proofs.lemmas.List.{take_rest}
use Rattle.lexical.specs.declared.bytes.Class.TheVariants as classes
use Rattle.lexical.proofs.FastBasedLemmas.{based_read, letter_other}
use Rattle.lexical.proofs.FastNumberLemmas.{byte_within, run_within}
use Rattle.lexical.proofs.fast_path.numbers.based_size.Goals as goal

pub slice_bounds-suffix_size-count : goal.slice_bounds-suffix_size-count
slice_bounds-suffix_size-count c =
    run_within (classes.DigitOrUnderscoreOf c.args.base) _ _ c.count_ascii-digits.ensures

pub slice_bounds-suffix_size-start : goal.slice_bounds-suffix_size-start
slice_bounds-suffix_size-start c =
    run_within (classes.DigitOrUnderscoreOf c.args.base) _ _ c.count_ascii-digits.ensures

pub overflow_add-result : goal.overflow_add-result
overflow_add-result c =
    let bytes = c.args.bytes.now in
    let inside = take (length bytes - 2) (drop 2 bytes) in
    let sign = byte_within bytes 1 _ c.args.letter c.byte_at-else-byte_at-ne48.ensures c.if-byte_at-letter.false
    (letter_other c.args.letter c.requires) in
    omega (
      arith,
      sign,
      run_within (classes.DigitOrUnderscoreOf c.args.base) inside _ c.count_ascii-digits.ensures,
      ap length (take_rest bytes 2),
      length-drop 2 bytes,
    )

pub overflow_add-result-2 : goal.overflow_add-result-2
overflow_add-result-2 c =
    let bytes = c.args.bytes.now in
    let digits = c.count_ascii-digits.result in
    let inside = take (length bytes - 2) (drop 2 bytes) in
    let sign = byte_within bytes 1 _ c.args.letter c.byte_at-else-byte_at-ne48.ensures c.if-byte_at-letter.false
    (letter_other c.args.letter c.requires) in
    omega (
      arith,
      sign,
      run_within (classes.DigitOrUnderscoreOf c.args.base) inside _ c.count_ascii-digits.ensures,
      c.in_ok-suffix.ensures.end.within,
      ap length (take_rest inside digits),
      length-drop digits inside,
      ap length (take_rest bytes 2),
      length-drop 2 bytes,
    )

pub returns : goal.returns
returns c =
    let bytes = c.args.bytes.now in
    let inside = take (length bytes - 2) (drop 2 bytes) in
    based_read c.args.letter c.args.base bytes inside _ c.byte_at.result c.byte_at-else-byte_at-ne48.result
    c.byte_at-2.result c.count_ascii-digits.result c.in_ok-suffix.suffix c.requires c.byte_at.ensures
    c.if-byte_at-ne48.false c.byte_at-else-byte_at-ne48.ensures c.if-byte_at-letter.false (take_rest bytes 2)
    c.byte_at-2.ensures c.if-not-holds_ascii.ensures c.count_ascii-digits.ensures
    (take_rest inside c.count_ascii-digits.result) c.in_ok-suffix.ensures.end c.in_ok-suffix.ensures.ascii

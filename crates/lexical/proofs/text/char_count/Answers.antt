use Rattle.std.proofs.Common.{◌≤◌, length, sym, ap, arith, length-drop}
use Rattle.std.specs.List.{count_by}
use Rattle.std.proofs.lemmas.List.{length-take-le, take_rest}
use Rattle.std.proofs.lemmas.Str.{chars-IsAscii}
use Rattle.lexical.specs.Text.{is_first_byte}
use Rattle.lexical.proofs.CountLemmas.{chars_counted, firsts_cut}
use Rattle.lexical.proofs.text.char_count.Goals as goal

pub returns-then-is_ascii : goal.returns-then-is_ascii
returns-then-is_ascii c = ap length (sym (chars-IsAscii c.args.text.now c.if-is_ascii.ensures.cases))

pub slice_bounds-first_bytes-end : goal.slice_bounds-first_bytes-end
slice_bounds-first_bytes-end c =
    sym (length-take-le 64 c.loop-rest.rest.now (omega (arith, c.loop-rest-test.true)))

pub overflow_add-count : goal.overflow_add-count
overflow_add-count c =
    let rest = c.loop-rest.rest.now in
    omega (
      arith,
      c.loop-rest-test.true,
      c.loop-rest.invariant.0,
      c.first_bytes-count.ensures.within,
      length-take-le 64 rest (omega (arith, c.loop-rest-test.true)),
    )

pub loop-rest-preserved : goal.loop-rest-preserved
loop-rest-preserved c =
    let rest = c.loop-rest.rest.now in
    let same = take_rest rest 64 in
    let low : 64 ≤ length rest = omega (arith, c.loop-rest-test.true) in (
      omega (
        arith,
        c.loop-rest-test.true,
        c.loop-rest.invariant.0,
        c.first_bytes-count.ensures.within,
        length-take-le 64 rest low,
        ap length same,
        length-drop 64 rest,
      ),
      omega (
        arith,
        c.loop-rest.invariant.1,
        c.first_bytes-count.ensures.count,
        firsts_cut rest 64,
        ap (count_by is_first_byte) same,
      ),
    )

pub returns : goal.returns
returns c =
    omega (
      arith,
      c.loop-rest.invariant.1,
      c.first_bytes.ensures.count,
      chars_counted c.args.text.now c.utf8.text,
    )

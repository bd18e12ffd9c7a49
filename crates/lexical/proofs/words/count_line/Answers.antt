use Rattle.std.proofs.Common.{◌-◌, length, take, drop, ap, ◌∙◌, arith, length-drop}
use Rattle.lexical.specs.Finder.{while_front}
use Rattle.std.proofs.lemmas.List.{take_rest}
use Rattle.lexical.specs.MachineWord.{is_line_ascii}
use Rattle.lexical.proofs.LaneLemmas.{goes_on}
use Rattle.lexical.proofs.FastPathLemmas.{front_of_run}
use Rattle.lexical.proofs.PlainLaneLemmas.{run_passes}
use Rattle.lexical.proofs.words.count_line.Goals as goal

pub loop-word-preserved : goal.loop-word-preserved
loop-word-preserved c =
    goes_on is_line_ascii c.args.bytes.now _ c.in-Some.word.now c.loop-word.end 8
    (take_rest c.args.bytes.now c.loop-word.end) c.in-Some.ensures.cases.same
    c.in_default-count_line_in_word.ensures.all c.loop-word.invariant.0 c.loop-word.invariant.1

pub overflow_add-result-2 : goal.overflow_add-result-2
overflow_add-result-2 c =
    let bytes = c.args.bytes.now in
    let n = c.loop-word.end in
    let inside = take (length bytes - n) (drop n bytes) in
    omega (
      arith,
      c.loop-word.invariant.0,
      (front_of_run is_line_ascii inside _ c.count_line_bytes.ensures).2,
      ap length (take_rest bytes n),
      length-drop n bytes,
    )

pub returns-in-Some-count_line_in_word-clause-plain : goal.returns-in-Some-count_line_in_word-clause-plain
returns-in-Some-count_line_in_word-clause-plain c =
    let more = goes_on is_line_ascii c.args.bytes.now _ c.in-Some.word.now c.loop-word.end _
    (take_rest c.args.bytes.now c.loop-word.end) c.in-Some.ensures.cases.same
    c.in-Some-count_line_in_word.ensures.some c.loop-word.invariant.0 c.loop-word.invariant.1 in
    run_passes is_line_ascii _ c.args.bytes.now (omega (arith, more.1))

pub returns-clause-plain : goal.returns-clause-plain
returns-clause-plain c =
    let bytes = c.args.bytes.now in
    let n = c.loop-word.end in
    let last = c.count_line_bytes.ensures
    ∙ ap (λ x. length (while_front is_line_ascii x)) (take_rest bytes n) in
    run_passes is_line_ascii _ bytes (omega (arith, last, c.loop-word.invariant.1))

pub returns-clause-within : goal.returns-clause-within
returns-clause-within c =
    let bytes = c.args.bytes.now in
    let n = c.loop-word.end in
    let inside = take (length bytes - n) (drop n bytes) in
    omega (
      arith,
      c.loop-word.invariant.0,
      (front_of_run is_line_ascii inside _ c.count_line_bytes.ensures).2,
      ap length (take_rest bytes n),
      length-drop n bytes,
    )

use Rattle.std.proofs.Common.{◌-◌, length, take, drop, ap, ◌∙◌, arith, length-drop}
use Rattle.lexical.specs.Finder.{while_front}
use Rattle.std.proofs.lemmas.List.{take_rest}
use Rattle.lexical.specs.MachineWord.{is_plain_ascii}
use Rattle.lexical.proofs.LaneLemmas.{goes_on}
use Rattle.lexical.proofs.FastPathLemmas.{front_of_run}
use Rattle.lexical.proofs.PlainLaneLemmas.{run_passes}
use Rattle.lexical.proofs.words.count_plain.Goals as goal

pub loop-word-preserved : goal.loop-word-preserved
loop-word-preserved c =
    goes_on is_plain_ascii c.args.bytes.now _ c.in-Some.word.now c.loop-word.size 8
    (take_rest c.args.bytes.now c.loop-word.size) c.in-Some.ensures.cases.same
    c.in_default-count_plain_in_word.ensures.all c.loop-word.invariant.0 c.loop-word.invariant.1

pub overflow_add-result-2 : goal.overflow_add-result-2
overflow_add-result-2 c =
    let bytes = c.args.bytes.now in
    let n = c.loop-word.size in
    let inside = take (length bytes - n) (drop n bytes) in
    omega (
      arith,
      c.loop-word.invariant.0,
      (front_of_run is_plain_ascii inside _ c.count_plain_bytes.ensures).2,
      ap length (take_rest bytes n),
      length-drop n bytes,
    )

pub returns-in-Some-count_plain_in_word : goal.returns-in-Some-count_plain_in_word
returns-in-Some-count_plain_in_word c =
    let more = goes_on is_plain_ascii c.args.bytes.now _ c.in-Some.word.now c.loop-word.size _
    (take_rest c.args.bytes.now c.loop-word.size) c.in-Some.ensures.cases.same
    c.in-Some-count_plain_in_word.ensures.some c.loop-word.invariant.0 c.loop-word.invariant.1 in
    run_passes is_plain_ascii _ c.args.bytes.now (omega (arith, more.1))

pub returns : goal.returns
returns c =
    let bytes = c.args.bytes.now in
    let n = c.loop-word.size in
    let last = c.count_plain_bytes.ensures
    ∙ ap (λ x. length (while_front is_plain_ascii x)) (take_rest bytes n) in
    run_passes is_plain_ascii _ bytes (omega (arith, last, c.loop-word.invariant.1))

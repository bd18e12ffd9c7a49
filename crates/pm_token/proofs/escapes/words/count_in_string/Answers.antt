use Rattle.std.proofs.Common.{◌≡◌, ◌-◌, length, take, drop, ap, ◌∙◌, arith, length-drop}
use Rattle.std.proofs.lemmas.List.{take_rest}
use Rattle.lexical.proofs.LaneLemmas.{goes_on}
use Rattle.lexical.proofs.FastPathLemmas.{front_of_run}
use Rattle.lexical.specs.Finder.{while_front}
use Rattle.pm_token.specs.Escaped.{is_plain_ascii}
use Rattle.pm_token.proofs.StringLaneLemmas.{short_front}
use Rattle.pm_token.proofs.escapes.words.count_in_string.Goals as goal

pub loop-word-preserved : goal.loop-word-preserved
loop-word-preserved c =
    goes_on (is_plain_ascii 34) c.args.bytes.now _ c.in-Some.word.now c.loop-word.count 8
    (take_rest c.args.bytes.now c.loop-word.count) c.in-Some.ensures.cases.same
    c.in_default-count_in_word.ensures.all c.loop-word.invariant.0 c.loop-word.invariant.1

pub overflow_add-result-2 : goal.overflow_add-result-2
overflow_add-result-2 c =
    let bytes = c.args.bytes.now in
    let n = c.loop-word.count in
    let inside = take (length bytes - n) (drop n bytes) in
    omega (
      arith,
      c.loop-word.invariant.0,
      (front_of_run (is_plain_ascii 34) inside _ c.count_by_bytes.ensures).2,
      ap length (take_rest bytes n),
      length-drop n bytes,
    )

pub returns-in-Some-count_in_word : goal.returns-in-Some-count_in_word
returns-in-Some-count_in_word c =
    let bytes = c.args.bytes.now in
    let n = c.loop-word.count in
    let front : c.in-Some.word.now ≡ take 8 (drop n bytes) =
    c.in-Some.ensures.cases.same ∙ ap (take 8) (take_rest bytes n) in
    let counted = c.in-Some-count_in_word.ensures.some ∙ ap (λ x. length (while_front (is_plain_ascii 34) x)) front in
    let few = c.in-Some-count_in_word.ensures.few in
    let whole = short_front (is_plain_ascii 34) 8 (drop n bytes) (omega (arith, few, counted)) in
    omega (arith, c.loop-word.invariant.1, counted, whole)

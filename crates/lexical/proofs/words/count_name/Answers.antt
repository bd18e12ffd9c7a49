use Rattle.std.proofs.Common.{◌+◌, ◌-◌, length, take, drop, ap, ◌∙◌, arith, length-drop}
use Rattle.std.proofs.lemmas.List.{take_rest}
use Rattle.lexical.specs.Finder.{while_front}
use Rattle.lexical.specs.declared.bytes.Class.TheVariants.{IdentifierContinue}
use Rattle.lexical.proofs.LaneLemmas.{continues, ends_here, goes_on}
use Rattle.lexical.proofs.FastNumberLemmas.{run_within}
use Rattle.lexical.proofs.words.count_name.Goals as goal

pub loop-word-preserved : goal.loop-word-preserved
loop-word-preserved c =
    goes_on continues c.args.bytes.now _ c.in-Some.word.now c.loop-word.count 8
    (take_rest c.args.bytes.now c.loop-word.count) c.in-Some.ensures.cases.same c.in_default-count_in_word.ensures.all
    c.loop-word.invariant.0 c.loop-word.invariant.1

pub overflow_add-result-2 : goal.overflow_add-result-2
overflow_add-result-2 c =
    let bytes = c.args.bytes.now in
    let n = c.loop-word.count in
    let inside = take (length bytes - n) (drop n bytes) in
    omega (
      arith,
      c.loop-word.invariant.0,
      run_within IdentifierContinue inside _ c.count_ascii.ensures,
      ap length (take_rest bytes n),
      length-drop n bytes,
    )

pub slice_bounds-first_chunk-count : goal.slice_bounds-first_chunk-count
slice_bounds-first_chunk-count c = c.loop-word.invariant.0

pub slice_bounds-count_ascii-count : goal.slice_bounds-count_ascii-count
slice_bounds-count_ascii-count c = c.loop-word.invariant.0

pub returns : goal.returns
returns c =
    let n = c.loop-word.count in
    ap (λ m. n + m)
    (c.count_ascii.ensures ∙ ap (λ x. length (while_front continues x)) (take_rest c.args.bytes.now n))
    ∙ c.loop-word.invariant.1

pub returns-in-Some-count_in_word : goal.returns-in-Some-count_in_word
returns-in-Some-count_in_word c =
    ends_here continues c.args.bytes.now _ c.in-Some.word.now c.loop-word.count _
    (take_rest c.args.bytes.now c.loop-word.count) c.in-Some.ensures.cases.same
    c.in-Some-count_in_word.ensures.some c.loop-word.invariant.0 c.loop-word.invariant.1
    c.in-Some-count_in_word.ensures.few

use Rattle.std.proofs.Common.{◌≡◌, ◌<◌, ◌+◌, false, length, length-drop, get_or, take, sym, ap, subst, ◌∙◌, arith}
use Rattle.std.specs.List.{list_all}
use Rattle.std.specs.Str.{chars}
use Rattle.std.proofs.lemmas.List.{take_rest}
use Rattle.lexical.specs.WhiteRun.{ascii_white, IsPastWhite}
use Rattle.lexical.proofs.WhiteRunLemmas.{white_boundary, white_more, white_next, white_run}
use Rattle.lexical.proofs.gaps.past_white.Goals as goal
use Rattle.lexical.proofs.gaps.past_white.Goals.{else-loop-white-test, then-loop-white-test+then-not-holds_ascii}

pub loop-white-preserved : goal.loop-white-preserved
loop-white-preserved c =
    let bytes = c.as_bytes-bytes.result.now in
    let n = c.loop-white.white in
    let rest = take_rest bytes (n + 1) in
    let one = white_next bytes n (sym c.if-not-holds_ascii.ensures) c.loop-white-test.true c.loop-white.invariant.1 in (
      omega (arith, c.spaces-white.ensures.within, ap length rest, length-drop (n + 1) bytes, c.loop-white-test.true),
      white_more bytes (n + 1) c.spaces-white.result one
          (ap (λ t. list_all ascii_white (take c.spaces-white.result t)) (sym rest) ∙ c.spaces-white.ensures.white),
    )

pub range_from-requires : goal.range_from-requires
range_from-requires c =
    let same = c.as_bytes-bytes.ensures.value in
    λ _. white_boundary c.args.text.now c.loop-white.white c.utf8.text
    (omega (arith, c.loop-white.invariant.0, ap length same))
    (ap (λ t. list_all ascii_white (take c.loop-white.white t)) (sym same) ∙ c.loop-white.invariant.1)

pub returns-clause-passed : goal.returns-clause-passed
returns-clause-passed c =
    let text = c.args.text.now in
    let n = c.loop-white.white in
    let same = c.as_bytes-bytes.ensures.value in
    let stops : n < length text → ascii_white (get_or text n 0) ≡ false = λ more. elim c.loop-white-test.branch [
      | else-loop-white-test w ↦ absurd (omega (arith, ap length same))
      | then-loop-white-test+then-not-holds_ascii w ↦
          ap (λ bs. ascii_white (get_or bs n 0)) (sym same) ∙ (sym w.holds_ascii.ensures ∙ w.if-not-holds_ascii.true)
    ] in
    subst (λ r. IsPastWhite (chars text) (chars r) n) (sym c.range_from.ensures.value)
    (white_run text n c.utf8.text (omega (arith, c.loop-white.invariant.0, ap length same))
    (ap (λ t. list_all ascii_white (take n t)) (sym same) ∙ c.loop-white.invariant.1)
    stops)

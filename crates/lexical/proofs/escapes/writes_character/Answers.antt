use Rattle.std.proofs.Common.{◌+◌, List, ℕ, get_or, drop, sym}
use Rattle.lexical.specs.Quoted.{allows}
use Rattle.lexical.proofs.CodeLemmas.{CountsTo, reads_digit, reads_line, digits_next, no_code_long, no_code_great}
use Rattle.lexical.proofs.escapes.writes_character.Goals as goal
use Rattle.lexical.proofs.escapes.writes_character.Goals.{in-Some, in_default}
use Rattle.lexical.proofs.escapes.writes_character.Goals.{then-count-gt-MOST_DIGITS-via-then-count-gt-MOST_DIGITS}
use Rattle.lexical.proofs.escapes.writes_character.Goals.{
  then-count-gt-MOST_DIGITS-via-else-count-gt-MOST_DIGITS+then-value-gt1114111,
}

pub returns-then-count-gt-MOST_DIGITS : goal.returns-then-count-gt-MOST_DIGITS
returns-then-count-gt-MOST_DIGITS c =
    let code = c.args.code.now in
    let i = c.loop-byte.byte-index in
    let after : List ℕ = drop (i + 1) code in
    let next = digits_next code i 0 c.loop-byte-test.true c.requires in
    let counts : CountsTo c.match-to_digit.value c.match-to_digit.count after code = elim c.match-to_digit.branch [
      | in-Some w ↦ reads_digit _ _ _ _ _ (get_or code i 0) after _ code next.0 next.1 c.loop-byte.invariant.0
          w.in-Some.ensures.value w.value-is w.count-is
      | in_default w ↦ reads_line _ _ _ _ (get_or code i 0) after _ code next.0 next.1 c.loop-byte.invariant.0
          w.in_default.ensures.value w.value-is w.count-is
    ] in
    let value : ℕ = c.match-to_digit.value in
    let count : ℕ = c.match-to_digit.count in
    sym (elim c.then-count-gt-MOST_DIGITS.branch [
      | then-count-gt-MOST_DIGITS-via-then-count-gt-MOST_DIGITS w ↦
          no_code_long (allows c.args.kind) value count after code counts w.if-count-gt-MOST_DIGITS.true
      | then-count-gt-MOST_DIGITS-via-else-count-gt-MOST_DIGITS+then-value-gt1114111 w ↦
          no_code_great (allows c.args.kind) value count after code counts w.if-value-gt1114111.true
    ])

pub loop-byte-preserved : goal.loop-byte-preserved
loop-byte-preserved c =
    let code = c.args.code.now in
    let i = c.loop-byte.byte-index in
    let after : List ℕ = drop (i + 1) code in
    let next = digits_next code i 0 c.loop-byte-test.true c.requires in
    let counts : CountsTo c.match-to_digit.value c.match-to_digit.count after code = elim c.match-to_digit.branch [
      | in-Some w ↦ reads_digit _ _ _ _ _ (get_or code i 0) after _ code next.0 next.1 c.loop-byte.invariant.0
          w.in-Some.ensures.value w.value-is w.count-is
      | in_default w ↦ reads_line _ _ _ _ (get_or code i 0) after _ code next.0 next.1 c.loop-byte.invariant.0
          w.in_default.ensures.value w.value-is w.count-is
    ] in
    (counts, c.if-count-gt-MOST_DIGITS.false, c.if-value-gt1114111.false)

-- Lemmas on runs of characters.
use Rattle.std.proofs.Common.{◌≡◌, ℕ, ◌+◌, ◌<◌, ◌≤◌, suc, Bool, true, false, List, length, get_or, drop, ap, arith}
use Rattle.std.proofs.Common.{add-one, drop-cons, length-append, length-drop}
use Rattle.std.specs.Str.{chars}
use Rattle.lexical.specs.Text.{first_passes}
use Rattle.lexical.specs.Finder.{while_front, while_rest}
use Rattle.lexical.specs.Rule.{Run, find}
use Rattle.lexical.specs.RuleMatch.{Passes}
use Rattle.lexical.specs.declared.cursor.TextCursor.{TextCursor}
use Rattle.lexical.proofs.FinderLemmas.{while_rest_none, while_whole}

-- whether the run from one cursor continues at the other
abbrev pub GoesOn : (ℕ → Bool) → TextCursor → TextCursor → Type 0
GoesOn test at end = (while_rest test (chars end.rest.now) ≡ while_rest test (chars at.rest.now))
    × (end.chars_before + length (while_front test (chars end.rest.now))
    ≡ at.chars_before + length (while_front test (chars at.rest.now)))

-- at a character that does not pass, or at the end, the run ends
pub run_stop : (test : ℕ → Bool) (at end : TextCursor) → GoesOn test at end
    → first_passes test (chars end.rest.now) ≡ false → Passes (Run test) at end
unfolding find
run_stop test at end goes stops =
    let none = while_rest_none test (chars end.rest.now) stops in
    record {
      front = while_front test (chars at.rest.now);
      found = rw (← goes.0, none.1);
      count = omega (arith, goes.1, ap length none.0);
    }

-- an item that passes continues the run of which `n` items are counted
pub count_on : (test : ℕ → Bool) (items : List ℕ) (n : ℕ) → n < length items → test (get_or items n 0) ≡ true
    → n + length (while_front test (drop n items)) ≡ length (while_front test items)
    → (n + 1 ≤ length items)
    × (n + 1 + length (while_front test (drop (n + 1) items)) ≡ length (while_front test items))
count_on test items n within passes count =
    let more : length (while_front test (drop n items)) ≡ suc (length (while_front test (drop (n + 1) items))) =
    rw (add-one, drop-cons items n 0 within, passes) in
    (omega arith, omega (arith, more, count))

-- an item that does not pass ends it
pub count_stop : (test : ℕ → Bool) (items : List ℕ) (n : ℕ) → n < length items → test (get_or items n 0) ≡ false
    → n + length (while_front test (drop n items)) ≡ length (while_front test items)
    → n ≡ length (while_front test items)
count_stop test items n within stops count =
    let none : length (while_front test (drop n items)) ≡ 0 = rw (drop-cons items n 0 within, stops) in
    omega (arith, none, count)

-- the end of the items ends it too
pub count_end : (test : ℕ → Bool) (items : List ℕ) (n : ℕ) → length items ≤ n
    → n + length (while_front test (drop n items)) ≡ length (while_front test items)
    → n ≡ length (while_front test items)
count_end test items n ended count =
    let rest = drop n items in
    omega (
      arith,
      count,
      length-drop n items,
      ap length (while_whole test rest),
      length-append (while_front test rest) (while_rest test rest),
    )

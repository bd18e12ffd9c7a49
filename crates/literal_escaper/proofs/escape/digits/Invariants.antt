use Rattle.std.proofs.Common.{◌≡◌, ◌≤◌, ◌*◌, ◌+◌, length}
use Rattle.std.specs.List.{fold}
use Rattle.literal_escaper.specs.Escape.{is_code_character}
use Rattle.literal_escaper.specs.Unescaping.{count_with, digit_count, digit_number, number_with, text_at}
use Rattle.literal_escaper.specs.Text.{while_front, while_rest}
use Rattle.literal_escaper.proofs.escape.digits.Given as goal

abbrev pub invariant-loop-c : goal.invariant-loop-c
invariant-loop-c l =
    (fold count_with l.count (while_front is_code_character (text_at l.after)) ≡ digit_count (text_at l.initial.after))
    × (fold number_with l.number (while_front is_code_character (text_at l.after))
    ≡ digit_number (text_at l.initial.after))
    × (while_rest is_code_character (text_at l.after) ≡ while_rest is_code_character (text_at l.initial.after))
    × (l.after.end ≡ l.initial.after.end)
    × (l.count ≤ 7)
    × (l.number ≤ 16 * 0x10_FFFF + 15)

abbrev pub decreases-loop-c : goal.decreases-loop-c
decreases-loop-c l = length (text_at l.after)

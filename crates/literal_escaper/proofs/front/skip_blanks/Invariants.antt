use Rattle.std.proofs.Common.{◌≡◌, ◌||◌, length}
use Rattle.literal_escaper.specs.Character.{is_blank}
use Rattle.literal_escaper.specs.Unescaping.{skips_line, text_at}
use Rattle.literal_escaper.specs.Text.{while_rest}
use Rattle.literal_escaper.proofs.front.skip_blanks.Given as goal

abbrev pub invariant-loop-c : goal.invariant-loop-c
invariant-loop-c l =
    ((l.lines || skips_line (text_at l.after)) ≡ skips_line (text_at l.initial.after))
    × (while_rest is_blank (text_at l.after) ≡ while_rest is_blank (text_at l.initial.after))
    × (l.after.end ≡ l.initial.after.end)

abbrev pub decreases-loop-c : goal.decreases-loop-c
decreases-loop-c l = length (text_at l.after)

use Rattle.std.proofs.Common.{◌≡◌, length}
use Rattle.literal_escaper.specs.Items.{items_from}
use Rattle.literal_escaper.specs.Unescaping.{text_at}
use Rattle.literal_escaper.proofs.front.next_front.Given as goal

abbrev pub invariant-loop-front : goal.invariant-loop-front
invariant-loop-front g l =
    items_from g.K.Unescape.kind l.cursor.end (text_at l.cursor)
    ≡ items_from g.K.Unescape.kind l.initial.cursor.end (text_at l.initial.cursor)

abbrev pub decreases-loop-front : goal.decreases-loop-front
decreases-loop-front g l = length (text_at l.cursor)

use Rattle.std.proofs.Common.{ℕ, Option, List, length}
use Rattle.std.specs.Io.KnownBytes.{Appends}
use Rattle.std.specs.Str.{chars}
use Rattle.proc_macro2.proofs.LineColumnLemmas.{HaveLineColumnsInside}
use Rattle.list_docs.specs.Answer.{all_lines}
use Rattle.list_docs.specs.Item.{Nothing, state_of}
use Rattle.list_docs.proofs.answer.print_text.Given as goal

-- the lines so far, with those for the trees that are left, are all lines, and each of these trees has a line and
-- column
abbrev pub invariant-loop-walk : goal.invariant-loop-walk
invariant-loop-walk g l =
    let bytes = g.W.Write.contents in
    let lines = all_lines (chars l.text) in
    HaveLineColumnsInside (chars l.text) l.walk
    × ((new : Option (List ℕ)) → Appends (bytes l.writer) new (lines (state_of l.state) l.walk)
    → Appends (bytes l.initial.writer) new (lines Nothing l.initial.walk))

abbrev pub decreases-loop-walk : goal.decreases-loop-walk
decreases-loop-walk g l = length l.walk

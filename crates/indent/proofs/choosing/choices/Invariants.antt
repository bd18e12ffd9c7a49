use Rattle.std.proofs.Common.{length}
use Rattle.std.specs.List.{All}
use Rattle.indent.specs.Indented.{KeepsLines}
use Rattle.indent.proofs.choosing.choices.Given as goal

abbrev pub invariant-loop-piece : goal.invariant-loop-piece
invariant-loop-piece l = All KeepsLines l.choices.items

abbrev pub decreases-loop-piece : goal.decreases-loop-piece
decreases-loop-piece l = length l.walk.rest.now

use Rattle.std.specs.Str.Iter.{chars_rest}
use Rattle.relayout.proofs.WhiteLemmas.{AreEnds}
use Rattle.relayout.proofs.white.push_line_ends.Given as goal

abbrev pub invariant-loop-c : goal.invariant-loop-c
invariant-loop-c l = AreEnds l.run (chars_rest l.c-iterator) l.initial.out l.out l.ended l.returned

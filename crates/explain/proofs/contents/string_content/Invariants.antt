use Rattle.std.proofs.Common.{length}
use Rattle.std.specs.Str.{chars}
use Rattle.lexical.specs.Character.{double_quote}
use Rattle.explain.specs.Walk.{IsInside}
use Rattle.explain.proofs.StringLemmas.{ReadUnits}
use Rattle.explain.proofs.contents.string_content.Given as goal

abbrev pub invariant-loop-after : goal.invariant-loop-after
invariant-loop-after l = record {
  read : ReadUnits l.kind l.at l.place;
  inside : IsInside double_quote l.place l.end;
}

abbrev pub decreases-loop-after : goal.decreases-loop-after
decreases-loop-after l = length (chars l.place.rest.now)

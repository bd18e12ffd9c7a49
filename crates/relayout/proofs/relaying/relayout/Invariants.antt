use Rattle.std.proofs.Common.{length}
use denote.Text.{Utf8}
use denote.Shadow.{shadow}
use Rattle.std.specs.Str.{chars}
use Rattle.relayout.proofs.StayLemmas.{Stays}
use Rattle.relayout.proofs.relaying.relayout.Given as goal

abbrev pub invariant-loop-piece : goal.invariant-loop-piece
invariant-loop-piece l =
    shadow (Utf8 l.kept) × Stays (chars l.text) l.choices l.left l.line (chars l.kept) l.walk l.out

abbrev pub decreases-loop-piece : goal.decreases-loop-piece
decreases-loop-piece l = length l.walk.rest.now

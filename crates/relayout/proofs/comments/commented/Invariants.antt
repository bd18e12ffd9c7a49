use Rattle.std.proofs.Common.{length}
use denote.Text.{Utf8}
use denote.Shadow.{shadow}
use Rattle.std.specs.Str.{chars}
use Rattle.relayout.proofs.KeptLemmas.{Keeps}
use Rattle.relayout.proofs.comments.commented.Given as goal

abbrev pub invariant-loop-rest : goal.invariant-loop-rest
invariant-loop-rest l = record {
  kept_text : shadow (Utf8 l.kept);
  rest_text : shadow (Utf8 l.rest);
  keeps : Keeps l.fn.any (chars l.fn.text) l.first l.free (chars l.kept) (chars l.rest) l.out;
}

abbrev pub decreases-loop-rest : goal.decreases-loop-rest
decreases-loop-rest l = length (chars l.rest)

use Rattle.std.proofs.Common.{length}
use Rattle.std.specs.Str.{chars}
use Rattle.explain.proofs.OpenCommentLemmas.{Walked}
use Rattle.explain.proofs.comment_hints.open_comments.Given as goal

abbrev pub invariant-loop-sign : goal.invariant-loop-sign
invariant-loop-sign l = Walked l.start l.at l.opened.items l.closed

abbrev pub decreases-loop-sign : goal.decreases-loop-sign
decreases-loop-sign l = length (chars l.at.rest.now)

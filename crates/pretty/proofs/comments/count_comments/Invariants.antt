use Rattle.std.proofs.Common.{◌+◌, ◌≤◌, length}
use Rattle.std.specs.Str.{chars}
use Rattle.pretty.proofs.CommentLemmas.{Passed}
use Rattle.pretty.proofs.comments.count_comments.Given as goal

abbrev pub invariant-loop-next : goal.invariant-loop-next
invariant-loop-next l = record {
  few : l.count + length l.walk.rest.now ≤ length l.text;
  passed : Passed (chars l.text) l.walk l.count;
}

abbrev pub decreases-loop-next : goal.decreases-loop-next
decreases-loop-next l = length l.walk.rest.now

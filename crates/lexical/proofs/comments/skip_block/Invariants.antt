use Rattle.std.proofs.Common.{◌≤◌, length}
use Rattle.std.specs.Str.{chars}
use Rattle.lexical.specs.Comment.{block_comment}
use Rattle.lexical.specs.Rule.{Ends}
use Rattle.lexical.specs.RuleMatch.{Leads}
use Rattle.lexical.proofs.comments.skip_block.Given as goal

abbrev pub invariant-loop-depth : goal.invariant-loop-depth
invariant-loop-depth l = record {
  leads : Leads block_comment l.at (Ends l.depth) l.end;
  fits : l.depth ≤ l.end.chars_before;
}

abbrev pub decreases-loop-depth : goal.decreases-loop-depth
decreases-loop-depth l = length (chars l.end.rest.now)

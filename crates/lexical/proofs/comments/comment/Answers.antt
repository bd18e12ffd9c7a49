use Rattle.std.proofs.Common.{◌≡◌, ℕ, List, Option, None, rules, ap}
use Rattle.std.specs.Str.{chars}
use Rattle.lexical.specs.Comment as rule
use Rattle.lexical.specs.CommentKind.{comment_kind}
use Rattle.lexical.specs.Piece.{Kind}
use Rattle.lexical.specs.PieceFinder.{comment_found, with_kind}
use Rattle.lexical.specs.Rule.{find}
use Rattle.lexical.specs.RuleMatch.{Passes}
use Rattle.lexical.specs.declared.cursor.TextCursor.{TextCursor}
use Rattle.lexical.proofs.CommentKindLemmas.{clear_comment}
use Rattle.lexical.proofs.RuleSteps.{passes_piece}
use Rattle.lexical.proofs.comments.comment.Goals as goal

pub before-requires : goal.before-requires
before-requires c = (c.in_ok-end.ensures.front, (passes_piece rule.comment clear_comment _ _ c.in_ok-end.ensures).0)

pub comment_kind-requires : goal.comment_kind-requires
comment_kind-requires c =
    let is = passes_piece rule.comment clear_comment _ _ c.in_ok-end.ensures in
    rw (c.before-2.ensures c.in_ok-end.ensures.front is.0) is.1

-- what was found is the comment with its kind
found_so : (at end : TextCursor) (h : Passes rule.comment at end) (p : List ℕ) (kind : Option Kind) → p ≡ h.front
    → comment_kind p (chars end.rest.now) ≡ kind
    → comment_found (find rule.comment (chars at.rest.now)) ≡ with_kind (p, chars end.rest.now) kind
found_so at end h p kind e is = rw (h.found, ← e) (ap (with_kind (p, chars end.rest.now)) is)

pub returns-in_err-kind : goal.returns-in_err-kind
returns-in_err-kind c =
    let h = c.in_ok-end.ensures in
    let same = c.before-2.ensures h.front (passes_piece rule.comment clear_comment _ _ h).0 in
    let nothing = found_so _ _ h _ None same c.in_err-kind.ensures in
    search (rules, nothing)

pub returns : goal.returns
returns c =
    let h = c.in_ok-end.ensures in
    let same = c.before-2.ensures h.front (passes_piece rule.comment clear_comment _ _ h).0 in
    let kind = c.in_ok-kind.ensures in
    record {
      front = chars c.before-2.result.now;
      found = found_so _ _ h _ _ same kind.0;
      count =
          rw same h.count;
      lends = kind.1;
    }

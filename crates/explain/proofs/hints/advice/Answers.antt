use Rattle.std.proofs.Common.{◌++◌, codes, Some, subst, sym}
use Rattle.std.specs.Str.{chars}
use Rattle.explain.specs.Hint.{Helps}
use Rattle.explain.proofs.HintLemmas.{comment_fault, no_hint, raw_fault}
use Rattle.explain.proofs.hints.advice.Goals as goal

pub comment_hint-requires-clause-stands : goal.comment_hint-requires-clause-stands
comment_hint-requires-clause-stands c =
    let f = comment_fault 1 (chars c.args.text.now) c.args.explained.now c.requires.explained c.in-UnclosedComment.is in
    (f.text_before, f.more, f.whole, f.at, f.none)

pub quote_hint-requires-clause-stands : goal.quote_hint-requires-clause-stands
quote_hint-requires-clause-stands c =
    let f = raw_fault 1 (chars c.args.text.now) c.args.explained.now c.requires.explained c.in-UnclosedRawString.is in
    (f.kind, f.text_before, f.opening, f.body, f.whole, f.opens, f.at)

pub returns-in_ok-comment_hint-in-UnclosedComment : goal.returns-in_ok-comment_hint-in-UnclosedComment
returns-in_ok-comment_hint-in-UnclosedComment c =
    let f = comment_fault 1 (chars c.args.text.now) c.args.explained.now c.requires.explained c.in-UnclosedComment.is in
    record {
      text_before = f.text_before;
      rest = codes "/*" ++ f.more;
      whole = f.whole;
      fault = f.fault;
      helps = subst (λ r. Helps 1 f.text_before (codes "/*" ++ f.more) r
          (Some c.in_ok-comment_hint-in-UnclosedComment.field-0)) (sym c.in-UnclosedComment.is)
          (c.in_ok-comment_hint-in-UnclosedComment.ensures f.text_before f.more f.whole f.at);
    }

pub returns-in-UnclosedRawString : goal.returns-in-UnclosedRawString
returns-in-UnclosedRawString c =
    let f = raw_fault 1 (chars c.args.text.now) c.args.explained.now c.requires.explained c.in-UnclosedRawString.is in
    record {
      text_before = f.text_before;
      rest = f.opening ++ f.body;
      whole = f.whole;
      fault = f.fault;
      helps = subst (λ r. Helps 1 f.text_before (f.opening ++ f.body) r c.quote_hint.result)
          (sym c.in-UnclosedRawString.is)
          (c.quote_hint.ensures f.kind f.text_before f.opening f.body f.whole f.opens f.at);
    }

pub returns-in_default : goal.returns-in_default
returns-in_default c =
    no_hint 1 (chars c.args.text.now) c.args.explained.now c.requires.explained c.in_default.not-UnclosedComment
    c.in_default.not-UnclosedRawString

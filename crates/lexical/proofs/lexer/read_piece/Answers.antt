use Rattle.std.proofs.Common.{rules, Some, [], ◌∷◌, ◌==◌, refl, sym, ap, ◌∙◌, eqb-true}
use Rattle.std.specs.Str.{chars}
use Rattle.std.proofs.lemmas.Bool.{cond-true, cond-false, or_from}
use Rattle.lexical.specs.Text.{begins_any}
use Rattle.lexical.specs.Delimiter.{is_opener, error_literal, opener}
use Rattle.lexical.specs.Literal.{quoted_literal}
use Rattle.lexical.specs.Mark.{is_mark}
use Rattle.lexical.specs.Number.{number}
use Rattle.lexical.specs.PieceFinder.{front_mark_kind, gap_kind, opener_kind, closer_kind, quote_kind, find_lone_quote}
use Rattle.lexical.specs.PieceFinder.{and_kind}
use Rattle.lexical.specs.Rule.{One, Exactly, find}
use Rattle.lexical.specs.declared.class.PieceStart.TheVariants as starts
use Rattle.lexical.proofs.ClassLemmas.{of_start, mark_not_quote, mark_plain}
use Rattle.lexical.proofs.RuleSteps.{text_found, lacks_text, past_text, not_at_stops}
use Rattle.lexical.proofs.PieceLemmas.{found_end}
use Rattle.lexical.proofs.AnswerLemmas.{at_start, first_found, quote_found, one_found_not_at, literal_read, mark_read}
use Rattle.lexical.proofs.AnswerLemmas.{read_one, read_first, same_answers, second}
use Rattle.lexical.proofs.lexer.read_piece.Goals as goal

pub returns-in_err-first : goal.returns-in_err-first
returns-in_err-first c = let nothing = found_end c.args.at_front (chars c.args.at.rest.now) c.in_err-first.ensures in
    search (rules, nothing)

pub returns-in-White : goal.returns-in-White
returns-in-White c =
    let split = c.in_ok-first.ensures in
    read_one gap_kind _ _ _ _ _ _ (at_start _ starts.White split.0 c.in-White.ensures)
    (first_found starts.White split.0 c.in-White.ensures) split.1 refl tt

pub identifier-requires-clause-starts : goal.identifier-requires-clause-starts
identifier-requires-clause-starts c = of_start starts.Letter c.in_ok-first.first c.in-Letter.ensures

pub returns-in-Some : goal.returns-in-Some
returns-in-Some c = read_first _ _ _ _ _ (at_start _ starts.Letter c.in_ok-first.ensures.0 c.in-Letter.ensures)
    c.in-Some.ensures

pub returns-in-None : goal.returns-in-None
returns-in-None c =
    same_answers _ _ (second c.in-None.ensures (at_start _ starts.Letter c.in_ok-first.ensures.0 c.in-Letter.ensures))
    (c.as_literal.ensures quoted_literal c.args.at c.skip_quoted.ensures)

pub returns-in-Digit : goal.returns-in-Digit
returns-in-Digit c =
    same_answers _ _ (at_start _ starts.Digit c.in_ok-first.ensures.0 c.in-Digit.ensures)
    (c.as_literal-in-Digit.ensures number c.args.at c.number.ensures)

pub returns-in-Some-past : goal.returns-in-Some-past
returns-in-Some-past c =
    let begins = ap (begins_any (error_literal ∷ [])) (past_text error_literal _ _ c.in-Some-past.ensures).0 in
    same_answers c.args.at (Some (_, c.in-Some-past.end))
    (second (ap (and_kind opener_kind) (not_at_stops (error_literal ∷ []) (One is_opener) _ begins))
    (at_start _ starts.Opener c.in_ok-first.ensures.0 c.in-Opener.ensures))
    (literal_read (Exactly error_literal) _ _ c.in-Some-past.ensures)

pub returns-in-None-past : goal.returns-in-None-past
returns-in-None-past c =
    let split = c.in_ok-first.ensures in
    let plain = or_from _ _ (lacks_text error_literal (chars c.args.at.rest.now) c.in-None-past.ensures) refl in
    read_first _ _ _ _ _ (at_start _ starts.Opener split.0 c.in-Opener.ensures)
    (read_one opener_kind (find opener (chars c.args.at.rest.now)) _ _ _ _ _ refl
    (one_found_not_at (error_literal ∷ []) is_opener _ _ _ split.0 plain
    (of_start starts.Opener c.in_ok-first.first c.in-Opener.ensures)) split.1 refl tt)

pub returns-in-Closer : goal.returns-in-Closer
returns-in-Closer c =
    let split = c.in_ok-first.ensures in
    read_one closer_kind _ _ _ _ _ _ (at_start _ starts.Closer split.0 c.in-Closer.ensures)
    (first_found starts.Closer split.0 c.in-Closer.ensures) split.1 refl tt

pub returns-then-not-follows_quote : goal.returns-then-not-follows_quote
returns-then-not-follows_quote c =
    let none = quote_found c.in_ok-first.ensures.0 c.in-Quote.ensures
    ∙ cond-false _ _ _ (sym c.if-not-follows_quote.ensures) in
    same_answers _ _ (second (ap (and_kind quote_kind) none)
    (at_start _ starts.Quote c.in_ok-first.ensures.0 c.in-Quote.ensures))
    (c.as_literal-then-not-follows_quote.ensures quoted_literal c.args.at c.skip_quoted-then-not-follows_quote.ensures)

pub returns-else-not-follows_quote : goal.returns-else-not-follows_quote
returns-else-not-follows_quote c =
    let split = c.in_ok-first.ensures in
    read_first _ _ _ _ _ (at_start _ starts.Quote split.0 c.in-Quote.ensures)
    (read_one quote_kind (find_lone_quote (chars c.args.at.rest.now)) _ _ _ _ 39 refl
    (quote_found split.0 c.in-Quote.ensures ∙ cond-true _ _ _ (sym c.if-not-follows_quote.ensures)) split.1 refl tt)

pub returns-in-DoubleQuote : goal.returns-in-DoubleQuote
returns-in-DoubleQuote c =
    same_answers _ _ (at_start _ starts.DoubleQuote c.in_ok-first.ensures.0 c.in-DoubleQuote.ensures)
    (c.as_literal-in-DoubleQuote.ensures quoted_literal c.args.at c.skip_quoted-in-DoubleQuote.ensures)

pub returns-then-not-at_front : goal.returns-then-not-at_front
returns-then-not-at_front c =
    at_start _ starts.FrontMark c.in_ok-first.ensures.0 c.in-FrontMark.ensures
    ∙ ap (and_kind front_mark_kind) (cond-false _ _ _ c.if-not-at_front.true)

pub returns-else-not-at_front : goal.returns-else-not-at_front
returns-else-not-at_front c =
    let split = c.in_ok-first.ensures in
    let is = eqb-true c.in_ok-first.first 0xFEFF
    (of_start starts.FrontMark c.in_ok-first.first c.in-FrontMark.ensures) in
    read_one front_mark_kind _ _ _ _ _ 0xFEFF (at_start _ starts.FrontMark split.0 c.in-FrontMark.ensures)
    (cond-true _ _ _ c.if-not-at_front.false
    ∙ text_found (0xFEFF ∷ []) _ _ (split.0 ∙ ap (λ d. d ∷ chars c.in_ok-first.after.rest.now) is)) split.1 refl tt

pub returns-then-begins_comment : goal.returns-then-begins_comment
returns-then-begins_comment c =
    same_answers _ _ (at_start _ starts.Slash c.in_ok-first.ensures.0 c.in-Slash.ensures
    ∙ cond-true _ _ _ (sym c.if-begins_comment.ensures)) c.comment.ensures

pub returns-else-begins_comment : goal.returns-else-begins_comment
returns-else-begins_comment c =
    let split = c.in_ok-first.ensures in
    let slash = eqb-true c.in_ok-first.first 47 (of_start starts.Slash c.in_ok-first.first c.in-Slash.ensures) in
    let plain = sym c.if-begins_comment.ensures in
    mark_read _ _ _ c.in_ok-first.first _ (at_start _ starts.Slash split.0 c.in-Slash.ensures ∙ cond-false _ _ _ plain)
    split.0 split.1 plain (ap is_mark slash) (ap (λ d. d == 39) slash) c.mark.ensures

pub returns-in-Mark : goal.returns-in-Mark
returns-in-Mark c =
    let split = c.in_ok-first.ensures in
    mark_read _ _ _ c.in_ok-first.first _ (at_start _ starts.Mark split.0 c.in-Mark.ensures) split.0 split.1
    (mark_plain c.in_ok-first.first _ _ split.0 c.in-Mark.ensures)
    (of_start starts.Mark c.in_ok-first.first c.in-Mark.ensures)
    (mark_not_quote c.in_ok-first.first c.in-Mark.ensures) c.mark-in-Mark.ensures

pub returns-in-Other : goal.returns-in-Other
returns-in-Other c = at_start _ starts.Other c.in_ok-first.ensures.0 c.in-Other.ensures

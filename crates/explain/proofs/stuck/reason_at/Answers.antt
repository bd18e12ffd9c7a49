use Rattle.lexical.specs.declared.class.PieceStart.TheVariants as starts
use Rattle.lexical.proofs.ClassLemmas.{of_start}
use Rattle.lexical.specs.declared.quoted.StringKind.TheVariants as kinds
use Rattle.explain.proofs.StuckLemmas.{closer_stands, comment_none, digit_first, letter_first, letter_none, mark_stands}
use Rattle.explain.proofs.StuckLemmas.{mark_is_misplaced, no_literal, no_number, no_token, opener_stands, past_one}
use Rattle.explain.proofs.StuckLemmas.{quote_none}
use Rattle.explain.proofs.StuckLemmas.{string_none, white_stands}
use Rattle.explain.proofs.stuck.reason_at.Goals as goal

pub number-requires-clause-digit : goal.number-requires-clause-digit
number-requires-clause-digit c = digit_first c.in-Some.c _ _ c.in-Some.ensures.0 c.in-Digit.ensures

pub number-requires-clause-none : goal.number-requires-clause-none
number-requires-clause-none c =
    no_number c.args.first c.in-Some.c _ _ c.in-Some.ensures.0 c.in-Digit.ensures c.requires.none

pub quote-requires-clause-opens : goal.quote-requires-clause-opens
quote-requires-clause-opens c =
    past_one 39 c.in-Some.c _ _ c.in-Some.ensures.0 c.in-Some.ensures.1
    (of_start starts.Quote c.in-Some.c c.in-Quote.ensures)

pub string-requires-clause-opens : goal.string-requires-clause-opens
string-requires-clause-opens c =
    past_one 34 c.in-Some.c _ _ c.in-Some.ensures.0 c.in-Some.ensures.1
    (of_start starts.DoubleQuote c.in-Some.c c.in-DoubleQuote.ensures)

pub returns-in-FrontMark : goal.returns-in-FrontMark
returns-in-FrontMark c = mark_is_misplaced c.in-Some.c _ _ c.in-Some.ensures.0 c.in-Some.ensures.1
    c.in-FrontMark.ensures

pub returns-in-Other : goal.returns-in-Other
returns-in-Other c = no_token c.in-Some.c _ _ c.in-Some.ensures.0 c.in-Some.ensures.1 c.in-Other.ensures

pub string-requires-clause-none : goal.string-requires-clause-none
string-requires-clause-none c =
    (no_literal _ (string_none c.args.first c.in-Some.c _ _ c.in-Some.ensures.0 c.in-DoubleQuote.ensures
    c.requires.none)).strings kinds.Plain

pub comment-requires-clause-begins : goal.comment-requires-clause-begins
comment-requires-clause-begins c =
    (comment_none c.args.first c.in-Some.c _ _ c.in-Some.ensures.0 c.in-Slash.ensures c.requires.none).0

pub comment-requires-clause-none : goal.comment-requires-clause-none
comment-requires-clause-none c =
    (comment_none c.args.first c.in-Some.c _ _ c.in-Some.ensures.0 c.in-Slash.ensures c.requires.none).1

pub letter-requires-clause-letter : goal.letter-requires-clause-letter
letter-requires-clause-letter c =
    letter_first c.in-Some.c _ _ c.in-Some.ensures.0 c.in-Letter.ensures

pub letter-requires-clause-identifier : goal.letter-requires-clause-identifier
letter-requires-clause-identifier c =
    (letter_none c.args.first c.in-Some.c _ _ c.in-Some.ensures.0 c.in-Letter.ensures c.requires.none).0

pub letter-requires-clause-literal : goal.letter-requires-clause-literal
letter-requires-clause-literal c =
    (letter_none c.args.first c.in-Some.c _ _ c.in-Some.ensures.0 c.in-Letter.ensures c.requires.none).1

pub quote-requires-clause-lone : goal.quote-requires-clause-lone
quote-requires-clause-lone c =
    (quote_none c.args.first c.in-Some.c _ _ c.in-Some.ensures.0 c.in-Quote.ensures c.requires.none).0

pub quote-requires-clause-none : goal.quote-requires-clause-none
quote-requires-clause-none c =
    (no_literal _ (quote_none c.args.first c.in-Some.c _ _ c.in-Some.ensures.0 c.in-Quote.ensures
    c.requires.none).1).characters

pub unreachable-requires-in-White : goal.unreachable-requires-in-White
unreachable-requires-in-White c =
    white_stands c.args.first c.in-Some.c _ _ c.in-Some.ensures.0 c.in-White.ensures c.requires.none

pub unreachable-requires-in-Opener : goal.unreachable-requires-in-Opener
unreachable-requires-in-Opener c =
    opener_stands c.args.first c.in-Some.c _ _ c.in-Some.ensures.0 c.in-Opener.ensures c.requires.none

pub unreachable-requires-in-Closer : goal.unreachable-requires-in-Closer
unreachable-requires-in-Closer c =
    closer_stands c.args.first c.in-Some.c _ _ c.in-Some.ensures.0 c.in-Closer.ensures c.requires.none

pub unreachable-requires-in-Mark : goal.unreachable-requires-in-Mark
unreachable-requires-in-Mark c =
    mark_stands c.args.first c.in-Some.c _ _ c.in-Some.ensures.0 c.in-Mark.ensures c.requires.none

use Rattle.std.specs.Str.{chars}
use Rattle.lexical.proofs.lexer.quote_piece.Goals as goal

pub returns-in-Some-clause-found : goal.returns-in-Some-clause-found
returns-in-Some-clause-found c =
    c.literal_piece.ensures c.args.first (chars c.args.text.now) c.in-Some.ensures

pub returns-in-None-clause-found : goal.returns-in-None-clause-found
returns-in-None-clause-found c = c.escaped_piece.ensures.found

pub returns-in-None-clause-none : goal.returns-in-None-clause-none
returns-in-None-clause-none c = c.escaped_piece.ensures.none

pub returns-in-Some-bare_character-clause-found : goal.returns-in-Some-bare_character-clause-found
returns-in-Some-bare_character-clause-found c =
    c.literal_piece-in-Some-bare_character.ensures c.args.first (chars c.args.text.now)
    c.in-Some-bare_character.ensures

pub returns-then-not-is_ascii-clause-found : goal.returns-then-not-is_ascii-clause-found
returns-then-not-is_ascii-clause-found c = c.wide_piece.ensures.found

pub returns-then-not-is_ascii-clause-none : goal.returns-then-not-is_ascii-clause-none
returns-then-not-is_ascii-clause-none c = c.wide_piece.ensures.none

pub returns-in-Some-lone_quote-clause-found : goal.returns-in-Some-lone_quote-clause-found
returns-in-Some-lone_quote-clause-found c = c.in-Some-lone_quote.ensures c.args.first

pub returns-in-None-lone_quote-clause-found : goal.returns-in-None-lone_quote-clause-found
returns-in-None-lone_quote-clause-found c = c.piece_by_characters.ensures.found

pub returns-in-None-lone_quote-clause-none : goal.returns-in-None-lone_quote-clause-none
returns-in-None-lone_quote-clause-none c = c.piece_by_characters.ensures.none

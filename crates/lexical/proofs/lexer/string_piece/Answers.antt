use Rattle.std.proofs.Common.{◌≡◌, get_or, take, subst, sym, ◌∙◌}
use Rattle.std.specs.Bool.{IsTrue}
use Rattle.std.specs.List.{list_all}
use Rattle.std.specs.Str.{chars}
use Rattle.lexical.specs.MachineWord.{is_plain_ascii}
use Rattle.lexical.proofs.lexer.string_piece.Goals as goal

pub returns-in_default-clause-found : goal.returns-in_default-clause-found
returns-in_default-clause-found c = c.piece_by_characters.ensures.found

pub returns-in_default-clause-none : goal.returns-in_default-clause-none
returns-in_default-clause-none c = c.piece_by_characters.ensures.none

pub escaped_string_piece-requires-clause-split : goal.escaped_string_piece-requires-clause-split
escaped_string_piece-requires-clause-split c = c.in-Some.ensures.split

pub escaped_string_piece-requires-clause-plain : goal.escaped_string_piece-requires-clause-plain
escaped_string_piece-requires-clause-plain c =
    subst (λ t. IsTrue (list_all is_plain_ascii (take c.count_few_plain-stretch.result t)))
    c.as_bytes-bytes.ensures.value c.count_few_plain-stretch.ensures

pub returns-then-byte_at-eq92-clause-found : goal.returns-then-byte_at-eq92-clause-found
returns-then-byte_at-eq92-clause-found c = c.escaped_string_piece.ensures.found

pub returns-then-byte_at-eq92-clause-none : goal.returns-then-byte_at-eq92-clause-none
returns-then-byte_at-eq92-clause-none c = c.escaped_string_piece.ensures.none

pub plain_string-requires : goal.plain_string-requires
plain_string-requires c =
    subst (λ t. IsTrue (list_all is_plain_ascii (take c.count_few_plain-stretch.result t)))
    c.as_bytes-bytes.ensures.value c.count_few_plain-stretch.ensures

pub returns-in-Some-plain_string-clause-found : goal.returns-in-Some-plain_string-clause-found
returns-in-Some-plain_string-clause-found c =
    c.literal_piece.ensures c.args.first (chars c.args.text.now)
    (c.in-Some-plain_string.ensures c.args.text.now c.in-Some.ensures.split)

pub returns-then-stretch-lt8-clause-found : goal.returns-then-stretch-lt8-clause-found
returns-then-stretch-lt8-clause-found c = c.other_string_piece.ensures.found

pub returns-then-stretch-lt8-clause-none : goal.returns-then-stretch-lt8-clause-none
returns-then-stretch-lt8-clause-none c = c.other_string_piece.ensures.none

pub long_string_piece-requires : goal.long_string_piece-requires
long_string_piece-requires c = c.in-Some.ensures.split

pub returns-clause-found : goal.returns-clause-found
returns-clause-found c = c.long_string_piece.ensures.found

pub returns-clause-none : goal.returns-clause-none
returns-clause-none c = c.long_string_piece.ensures.none

pub escaped_string_piece-requires-clause-backslash : goal.escaped_string_piece-requires-clause-backslash
escaped_string_piece-requires-clause-backslash c =
    subst (λ t. get_or t c.count_few_plain-stretch.result 32 ≡ 92) c.as_bytes-bytes.ensures.value
    (sym c.byte_at.ensures ∙ c.if-byte_at-eq92.true)

use Rattle.std.proofs.Common.{rules, sym, ap, ◌∙◌}
use Rattle.std.specs.Str.{chars}
use Rattle.lexical.specs.PieceFinder.{find_piece}
use Rattle.lexical.proofs.PieceLemmas.{none_from_found}
use Rattle.lexical.proofs.AnswerLemmas.{read_stands, piece_is_at}
use Rattle.lexical.proofs.lexer.piece_by_characters.Goals as goal

pub returns-in_err-kind-clause-none : goal.returns-in_err-kind-clause-none
returns-in_err-kind-clause-none c =
    let none = none_from_found c.args.first (chars c.args.text.now)
    (ap (find_piece c.args.first) (ap chars (sym c.new.ensures.rest)) ∙ c.in_err-kind.ensures) in
    search (rules, none)

pub bytes_in-requires : goal.bytes_in-requires
bytes_in-requires c = (
  c.in_ok-kind.ensures.front,
  (read_stands c.args.first c.new.result _ _ (ap chars c.new.ensures.rest) c.in_ok-kind.ensures).0,
)

pub returns-clause-found : goal.returns-clause-found
returns-clause-found c =
    let read = c.in_ok-kind.ensures in
    let text = ap chars c.new.ensures.rest in
    piece_is_at c.args.first c.new.result _ _ _ _ text c.new.ensures.chars read
    (c.bytes_in.ensures read.front (read_stands c.args.first c.new.result _ _ text read).0)

use Rattle.std.proofs.Common.{rules, ◌∙◌, sym, ap}
use Rattle.std.specs.Str.{chars}
use Rattle.lexical.specs.Literal.{Literal, literal}
use Rattle.lexical.specs.Rule.{find}
use Rattle.lexical.proofs.FinderLemmas.{none_is}
use Rattle.lexical.proofs.LiteralFinderLemmas.{finds_literal}
use Rattle.lexical.proofs.AnswerLemmas.{is_in, is_at}
use Rattle.lexical.proofs.lexer.literal_by_characters.Goals as goal

pub bytes_in-requires : goal.bytes_in-requires
bytes_in-requires c = is_in literal Literal finds_literal _ _ _ c.new.ensures.rest c.in_ok-after.ensures

pub returns-clause-found : goal.returns-clause-found
returns-clause-found c = is_at literal Literal finds_literal _ _ _ _ c.new.ensures.rest c.in_ok-after.ensures
    c.bytes_in.ensures

pub returns-in_err-after-clause-none : goal.returns-in_err-after-clause-none
returns-in_err-after-clause-none c =
    let none = none_is (find literal) Literal finds_literal (chars c.args.text.now)
    (ap (λ x. find literal (chars x)) (sym c.new.ensures.rest) ∙ c.in_err-after.ensures) in
    search (rules, none)

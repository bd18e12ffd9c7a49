use Rattle.std.proofs.Common.{rules, ◌∙◌, sym, ap}
use Rattle.std.specs.Str.{chars}
use Rattle.lexical.specs.Identifier.{Name, name}
use Rattle.lexical.specs.Rule.{find}
use Rattle.lexical.proofs.FinderLemmas.{none_is}
use Rattle.lexical.proofs.RuleLemmas.{exact}
use Rattle.lexical.proofs.AnswerLemmas.{is_in, is_at}
use Rattle.lexical.proofs.lexer.name_at.Goals as goal

pub bytes_in-requires : goal.bytes_in-requires
bytes_in-requires c = is_in name Name (exact name (tt, tt)) _ _ _ c.new.ensures.rest c.in_ok-end.ensures

pub returns-clause-found : goal.returns-clause-found
returns-clause-found c = is_at name Name (exact name (tt, tt)) _ _ _ _ c.new.ensures.rest c.in_ok-end.ensures
    c.bytes_in.ensures

pub returns-in_err-end-clause-none : goal.returns-in_err-end-clause-none
returns-in_err-end-clause-none c =
    let none = none_is (find name) Name (exact name (tt, tt)) (chars c.args.text.now)
    (ap (λ x. find name (chars x)) (sym c.new.ensures.rest) ∙ c.in_err-end.ensures) in
    search (rules, none)

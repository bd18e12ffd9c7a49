use Rattle.std.proofs.Common.{sym, ap, ◌∙◌, subst}
use Rattle.lexical.specs.SingleQuoted.{Character}
use Rattle.pm_token.specs.LiteralText.{IsLiteralText}
use Rattle.pm_token.specs.SingleValue.{char_value}
use Rattle.pm_token.proofs.SingleValueLemmas.{IsExact, exact_character}
use Rattle.pm_token.proofs.literals.Literal.char_value.Goals as goal
use Rattle.pm_token.proofs.literals.Literal.char_value.Goals.{After-character_of}

is_exact : (c : After-character_of) → IsExact Character c.args.self.now.text c.character_of.result
is_exact c =
    subst (IsExact Character c.args.self.now.text) (sym (c.character_of.ensures ∙ ap char_value c.text.ensures))
    (exact_character c.args.self.now.text (subst (λ l. IsLiteralText l.text) c.self.view_is c.self.invariant))

pub returns-clause-ok : goal.returns-clause-ok
returns-clause-ok c = (is_exact c).ok

pub returns-clause-kind : goal.returns-clause-kind
returns-clause-kind c = (is_exact c).kind

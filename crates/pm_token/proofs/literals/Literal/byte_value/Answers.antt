use Rattle.std.proofs.Common.{sym, ap, ◌∙◌, subst}
use Rattle.lexical.specs.SingleQuoted.{Byte}
use Rattle.pm_token.specs.LiteralText.{IsLiteralText}
use Rattle.pm_token.specs.SingleValue.{byte_value}
use Rattle.pm_token.proofs.SingleValueLemmas.{IsExact, exact_byte}
use Rattle.pm_token.proofs.literals.Literal.byte_value.Goals as goal
use Rattle.pm_token.proofs.literals.Literal.byte_value.Goals.{After-byte_of}

is_exact : (c : After-byte_of) → IsExact Byte c.args.self.now.text c.byte_of.result
is_exact c =
    subst (IsExact Byte c.args.self.now.text) (sym (c.byte_of.ensures ∙ ap byte_value c.text.ensures))
    (exact_byte c.args.self.now.text (subst (λ l. IsLiteralText l.text) c.self.view_is c.self.invariant))

pub returns-clause-ok : goal.returns-clause-ok
returns-clause-ok c = (is_exact c).ok

pub returns-clause-kind : goal.returns-clause-kind
returns-clause-kind c = (is_exact c).kind

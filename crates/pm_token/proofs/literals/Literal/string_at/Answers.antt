use Rattle.std.proofs.Common.{◌≡◌, sym, subst, rules, append_assoc, inl}
use Rattle.std.specs.Str.{chars}
use Rattle.std.proofs.lemmas.Str.{scalars-chars}
use Rattle.lexical.specs.Literal.{IsLiteralToken}
use Rattle.pm_token.specs.Escaped.{string_text}
use Rattle.pm_token.proofs.EscapedLemmas.{string_whole}
use Rattle.pm_token.proofs.literals.Literal.string_at.Goals as goal

pub invariant_of-result : goal.invariant_of-result
invariant_of-result c =
    let text : c.in_ok-finish.field-0 ≡ string_text (chars c.args.text.now) = search (rules, append_assoc) in (
      inl (subst IsLiteralToken (sym text)
          (string_whole (chars c.args.text.now) (scalars-chars c.args.text.now c.utf8.text))),
      c.in_ok-finish.ensures.text,
    )

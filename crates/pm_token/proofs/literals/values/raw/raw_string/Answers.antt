use Rattle.std.proofs.Common.{arith}
use Rattle.lexical.proofs.TextLemmas.{bytes_from_no_chars}
use Rattle.pm_token.proofs.literals.values.raw.raw_string.Goals as goal

pub returns-in_err-push_str-clause-memory : goal.returns-in_err-push_str-clause-memory
returns-in_err-push_str-clause-memory c = λ empty.
    absurd (omega (
      arith,
      c.in_err-push_str.ensures.full,
      c.new-value.ensures.len,
      bytes_from_no_chars c.args.content.now c.utf8.content empty,
    ))

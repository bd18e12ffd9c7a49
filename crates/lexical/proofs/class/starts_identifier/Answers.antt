use Rattle.std.proofs.Common.{rules, ◌||◌, ◌==◌, ap, sym, ◌∙◌}
use Rattle.lexical.proofs.ClassLemmas.{ident_start_ascii}
use Rattle.lexical.proofs.class.starts_identifier.Goals as goal

pub returns-then-is_ascii : goal.returns-then-is_ascii
returns-then-is_ascii c = ap (λ b. b || (c.args.c == 95)) c.is_ascii_alphabetic.ensures.value
    ∙ sym (ident_start_ascii c.args.c (search rules))

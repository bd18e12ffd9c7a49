use Rattle.lexical.proofs.StripLemmas.{strips_chars}
use Rattle.std.specs.Str.{chars}
use Rattle.pm_token.proofs.ContentLemmas.{strip_front_found}
use Rattle.pm_token.proofs.literals.values.content.past_prefix.Goals as goal

pub returns-clause-found : goal.returns-clause-found
returns-clause-found c =
    strip_front_found c.args.front.now (chars c.args.text.now) c.strip_prefix.result
    (strips_chars c.args.front.now c.args.text.now c.strip_prefix.result c.utf8.text c.requires
    c.strip_prefix.ensures.cases)

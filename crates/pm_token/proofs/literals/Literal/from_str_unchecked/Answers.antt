use Rattle.std.specs.Str.{chars}
use Rattle.std.proofs.lemmas.Str.{scalars-chars}
use Rattle.pm_token.proofs.WholeLemmas.{literal_text}
use Rattle.pm_token.proofs.literals.Literal.from_str_unchecked.Goals as goal

pub from_parts-requires : goal.from_parts-requires
from_parts-requires c = literal_text (chars c.args.text.now) (scalars-chars c.args.text.now c.utf8.text) c.requires

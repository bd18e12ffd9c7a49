use Rattle.std.proofs.Common.{sym}
use Rattle.std.specs.Str.{chars}
use Rattle.std.proofs.lemmas.Str.{scalars-chars}
use Rattle.pm_token.proofs.NameLemmas.{built_from}
use Rattle.pm_token.proofs.identifiers.Ident.valid_ident.Goals as goal

pub from_parts-requires : goal.from_parts-requires
from_parts-requires c =
    built_from c.args.raw (chars c.args.name.now) (scalars-chars c.args.name.now c.utf8.name)
    (sym c.in-None.ensures)

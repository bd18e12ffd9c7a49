use Rattle.std.proofs.Common.{ap, ◌∙◌}
use Rattle.std.specs.Str.{chars}
use Rattle.std.proofs.lemmas.Str.{chars-nil}
use Rattle.pm_token.proofs.escapes.TextBuilder.with_room.Goals as goal

pub returns : goal.returns
returns c = ap chars c.in_ok-with_capacity.ensures.bytes ∙ chars-nil

use Rattle.std.proofs.Common.{codes, refl}
use Rattle.std.specs.Str.{chars}
use Rattle.lexical.specs.Quoted.{body, unit}
use Rattle.lexical.specs.Rule.{Stands}
use Rattle.lexical.specs.declared.quoted.StringKind.TheVariants as strings
use Rattle.lexical.proofs.FastStringLemmas.{after_front}
use Rattle.lexical.proofs.fast_path.quoted.byte_string_size.Goals as goal

pub returns : goal.returns
returns c =
    after_front (Stands (body (unit strings.Byte) (codes "\""))) (codes "b\"") (chars c.args.text.now)
    (chars c.in_ok-inside.inside.now) c.in_ok-body_size.field-0 refl c.in_ok-inside.ensures.split
    c.in_ok-body_size.ensures.found

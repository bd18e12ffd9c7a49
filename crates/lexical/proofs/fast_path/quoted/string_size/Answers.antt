use Rattle.std.proofs.Common.{codes, refl}
use Rattle.std.specs.Str.{chars}
use Rattle.lexical.specs.Quoted.{Str, body, unit}
use Rattle.lexical.specs.Rule.{Stands}
use Rattle.lexical.specs.declared.quoted.StringKind.TheVariants as strings
use Rattle.lexical.proofs.FastStringLemmas.{after_front, plain_stretch}
use Rattle.lexical.proofs.fast_path.quoted.string_size.Goals as goal

pub returns : goal.returns
unfolding Str
returns c =
    after_front (Stands (body (unit strings.Plain) (codes "\""))) (codes "\"") (chars c.args.text.now)
    (chars c.in_ok-inside.inside.now) c.in_ok-body_size.field-0 refl c.in_ok-inside.ensures.split
    c.in_ok-body_size.ensures.found

pub body_size-requires : goal.body_size-requires
body_size-requires c =
    plain_stretch c.in_ok-inside.inside.now c.as_bytes.result.now _ c.as_bytes.ensures.value c.in_ok-stretch.ensures

use Rattle.std.proofs.Common.{arith, codes, refl}
use Rattle.std.specs.Str.{chars}
use Rattle.lexical.specs.Quoted.{Str, body, unit}
use Rattle.lexical.specs.Rule.{Stands}
use Rattle.lexical.specs.declared.quoted.StringKind.TheVariants as strings
use Rattle.lexical.proofs.FastLiteralLemmas.{string_literal}
use Rattle.lexical.proofs.FastStringLemmas.{after_front, found_other, plain_up_to}
use Rattle.lexical.proofs.fast_path.quoted.escaped_string.Goals as goal

pub body_size-requires : goal.body_size-requires
body_size-requires c =
    plain_up_to c.args.inside.now c.args.stretch 92 c.requires.plain c.requires.backslash refl (λ e. omega (arith, e))

pub count_extent-requires : goal.count_extent-requires
unfolding Str
count_extent-requires c =
    found_other _ _ (chars c.args.text.now) _ string_literal
    (after_front (Stands (body (unit strings.Plain) (codes "\""))) (codes "\"") (chars c.args.text.now)
    (chars c.args.inside.now) c.in_ok-size.size refl c.requires.split
    c.in_ok-size.ensures.found)

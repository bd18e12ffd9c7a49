use Rattle.std.specs.Prelude.{string_bytes}
use Rattle.std.proofs.lemmas.Str.{IsUtf8-string_bytes}
use Rattle.pm_token.proofs.TextBuilderLemmas.{chars_pushed}
use Rattle.pm_token.proofs.literals.values.unescaped.push_char.Goals as goal

pub returns : goal.returns
returns c =
    chars_pushed c.push.result (string_bytes c.push.new.self) (string_bytes c.args.text.now) c.args.c
    (IsUtf8-string_bytes c.args.text.now) c.ranges.c.0 c.push.ensures.bytes

use Rattle.std.proofs.Common.{◌≡◌, ◌∷◌, ◌++◌, [], OnOk, subst}
use Rattle.std.specs.Prelude.{string_bytes}
use Rattle.std.specs.Str.{chars}
use Rattle.std.proofs.lemmas.Str.{IsUtf8-string_bytes}
use Rattle.pm_token.proofs.TextBuilderLemmas.{chars_pushed}
use Rattle.pm_token.proofs.escapes.TextBuilder.push.Goals as goal

pub returns : goal.returns
returns c = record {
  ok = subst (λ old. OnOk c.push.result (chars (string_bytes c.push.new.self) ≡ old ++ c.args.c ∷ [])) c.self.view_is
      (chars_pushed c.push.result (string_bytes c.push.new.self) (string_bytes c.self.inside.text) c.args.c
      (IsUtf8-string_bytes c.self.inside.text) c.ranges.c.0 c.push.ensures.bytes);
}

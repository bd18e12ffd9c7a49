use Rattle.std.proofs.Common.{◌≡◌, ◌++◌, OnOk, subst}
use Rattle.std.specs.Prelude.{string_bytes}
use Rattle.std.specs.Str.{chars}
use Rattle.std.proofs.lemmas.Str.{IsUtf8-string_bytes}
use Rattle.pm_token.proofs.TextBuilderLemmas.{chars_texted}
use Rattle.pm_token.proofs.escapes.TextBuilder.push_text.Goals as goal

pub returns : goal.returns
returns c = record {
  ok = subst (λ old. OnOk c.push_str.result (chars (string_bytes c.push_str.new.self) ≡ old ++ chars c.args.text.now))
      c.self.view_is
      (chars_texted c.push_str.result (string_bytes c.push_str.new.self)
      (string_bytes c.self.inside.text) c.args.text.now
      (IsUtf8-string_bytes c.self.inside.text) c.push_str.ensures.bytes);
}

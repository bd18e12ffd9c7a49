use Rattle.std.proofs.Common.{◌∙◌}
use Rattle.std.specs.Prelude.{string_bytes}
use Rattle.std.specs.Str.{chars}
use Rattle.std.proofs.lemmas.Str.{IsUtf8-string_bytes, encodes-chars}
use Rattle.layout.proofs.writing.write_with.Goals as goal

pub returns-in-Ok-clause-ok : goal.returns-in-Ok-clause-ok
returns-in-Ok-clause-ok g c =
    let bytes = string_bytes c.in_ok-text.text in
    record {
      text = chars bytes;
      made = c.in_ok-text.ensures.written;
      layout = c.in_ok-text.ensures.layout;
      back = c.in_ok-text.ensures.back;
      appends = rw (
        encodes-chars bytes (IsUtf8-string_bytes c.in_ok-text.text),
        ← (c.as_bytes.ensures.value ∙ c.as_str.ensures.value),
      ) c.in-Ok.ensures.bytes;
    }

use Rattle.std.proofs.Common.{◌∙◌}
use Rattle.std.specs.Prelude.{string_bytes}
use Rattle.std.specs.Str.{chars}
use Rattle.std.proofs.lemmas.Str.{IsUtf8-string_bytes, encodes-chars}
use Rattle.pretty.proofs.answer.print_stream.Goals as goal

pub returns-clause-ok : goal.returns-clause-ok
returns-clause-ok g c =
    let bytes = string_bytes c.in_ok-whole.whole in (
      chars (string_bytes c.in_ok-pretty.pretty),
      c.in_ok-pretty.ensures.ok,
      rw (
        ← c.in_ok-whole.ensures,
        encodes-chars bytes (IsUtf8-string_bytes c.in_ok-whole.whole),
        ← (c.as_bytes.ensures.value ∙ c.as_str.ensures.value),
      ) c.in_ok-write_all.ensures.bytes,
    )

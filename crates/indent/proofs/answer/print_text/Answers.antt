use Rattle.std.proofs.Common.{◌∙◌, string_bytes}
use Rattle.std.specs.Str.{chars}
use Rattle.std.proofs.lemmas.Str.{IsUtf8-string_bytes, encodes-chars}
use Rattle.indent.proofs.answer.print_text.Goals as goal

pub returns-in-Err-clause-err : goal.returns-in-Err-clause-err
returns-in-Err-clause-err g c = c.in-Err.ensures.err _

pub returns-in_ok-write_all-in-Ok-clause-ok : goal.returns-in_ok-write_all-in-Ok-clause-ok
returns-in_ok-write_all-in-Ok-clause-ok g c =
    let bytes = string_bytes c.in-Ok.indented in (
      chars bytes,
      c.in-Ok.ensures.ok,
      rw (
        encodes-chars bytes (IsUtf8-string_bytes c.in-Ok.indented),
        ← (c.as_bytes.ensures.value ∙ c.as_str.ensures.value),
      ) c.in_ok-write_all-in-Ok.ensures.bytes,
    )

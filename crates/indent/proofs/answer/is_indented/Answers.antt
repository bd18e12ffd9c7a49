use Rattle.std.proofs.Common.{string_bytes}
use Rattle.std.specs.Str.{chars}
use Rattle.indent.proofs.TextLemmas.{string_same}
use Rattle.indent.proofs.answer.is_indented.Goals as goal

pub returns-clause-ok : goal.returns-clause-ok
returns-clause-ok c = (
  chars (string_bytes c.in_ok-indented.indented),
  c.in_ok-indented.ensures.ok,
  string_same c.in_ok-indented.indented c.as_str.result.now c.args.text.now c.eq.result c.as_str.ensures.value
      c.utf8.text c.eq.ensures,
)

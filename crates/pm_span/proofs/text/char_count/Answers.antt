use Rattle.std.proofs.Common.{length, ap, sym}
use Rattle.std.proofs.lemmas.Str.{chars-IsAscii}
use Rattle.pm_span.proofs.text.char_count.Goals as goal

pub returns-then-is_ascii : goal.returns-then-is_ascii
returns-then-is_ascii c = ap length (sym (chars-IsAscii c.args.text.now c.if-is_ascii.ensures.cases))

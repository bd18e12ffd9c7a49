use Rattle.std.proofs.Common.{ap, sym, length}
use Rattle.std.proofs.lemmas.Str.{encodes-chars}
use Rattle.literal_escaper.proofs.content_cursor.ContentCursor.new.Goals as goal

pub returns-clause-end : goal.returns-clause-end
returns-clause-end c = sym (ap length (encodes-chars c.args.content.now c.utf8.content))

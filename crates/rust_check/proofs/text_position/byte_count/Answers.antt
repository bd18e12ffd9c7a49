use Rattle.std.proofs.Common.{ap, length, sym}
use Rattle.std.proofs.lemmas.Str.{encodes-chars}
use Rattle.rust_check.proofs.text_position.byte_count.Goals as goal

pub returns : goal.returns
returns c = ap length (sym (encodes-chars c.args.text.now c.utf8.text))

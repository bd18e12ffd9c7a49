use Rattle.std.proofs.Common.{◌-◌, ap, sym, length}
use Rattle.std.proofs.lemmas.Str.{IsUtf8-had, encodes-chars}
use Rattle.literal_escaper.proofs.content_cursor.ContentCursor.byte_offset.Goals as goal

pub returns : goal.returns
returns c = ap (λ rest. c.args.self.end - length rest)
    (sym (encodes-chars c.args.self.rest.now (IsUtf8-had _ c.args.self.text)))

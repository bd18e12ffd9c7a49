use Rattle.token_buffer.proofs.ReadLemmas.{is_nil-empty}
use Rattle.token_buffer.proofs.cursor.Cursor.eof.Goals as goal

pub returns : goal.returns
returns c =
    is_nil-empty c.args.self.text.now c.args.self.entries.now c.is_empty.result c.args.self.holds c.is_empty.ensures

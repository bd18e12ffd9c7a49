use Rattle.std.proofs.Common.{arith}
use Rattle.lexical.proofs.TextLemmas.{chars_within}
use Rattle.lexical.proofs.cursor.TextCursor.new.Goals as goal

pub invariant_of-result-clause-room : goal.invariant_of-result-clause-room
invariant_of-result-clause-room c =
    omega (arith, chars_within c.args.text.now c.utf8.text, c.iter-bytes.ensures, c.as_bytes.ensures)

use Rattle.std.proofs.Common.{arith}
use Rattle.std.proofs.lemmas.Str.{IsUtf8-had}
use Rattle.lexical.proofs.TextLemmas.{front_len}
use Rattle.lexical.proofs.cursor.TextCursor.bytes_in.Goals as goal

pub overflow_sub-result : goal.overflow_sub-result
overflow_sub-result c = omega (
  arith,
  front_len c.args.text.now c.args.self.rest.now c.requires.0 c.utf8.text
      (IsUtf8-had _ c.args.self.text) c.requires.1,
)

pub returns : goal.returns
returns c = λ front e. omega (
  arith,
  front_len c.args.text.now c.args.self.rest.now front c.utf8.text
      (IsUtf8-had _ c.args.self.text) e,
)

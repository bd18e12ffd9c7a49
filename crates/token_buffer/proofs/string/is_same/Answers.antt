use Rattle.token_buffer.proofs.StringLemmas.{same_texts, same_strings}
use Rattle.token_buffer.proofs.string.is_same.Goals as goal

pub returns : goal.returns
returns c = record {
  texts = same_texts c.args.text.now c.args.other.now _ c.utf8.text c.utf8.other c.eq.ensures;
  strings = same_strings c.args.text.now c.args.other.now _ c.utf8.text c.utf8.other c.eq.ensures;
}

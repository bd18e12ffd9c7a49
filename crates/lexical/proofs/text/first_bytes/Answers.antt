use Rattle.lexical.proofs.CountLemmas.{ascii_counted}
use Rattle.lexical.proofs.text.first_bytes.Goals as goal

pub returns-then-is_ascii-clause-count : goal.returns-then-is_ascii-clause-count
returns-then-is_ascii-clause-count c = ascii_counted c.args.bytes.now c.if-is_ascii.ensures.cases

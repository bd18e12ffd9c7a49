use Rattle.std.proofs.Common.{inr}
use Rattle.lexical.proofs.FastEscapeLemmas.{some_other}
use Rattle.lexical.proofs.fast_path.quoted.escaped_size.Goals as goal

pub returns : goal.returns
returns c = some_other _ _ c.args.bytes.now _ (λ p r h rest. inr (h rest)) c.escape_size.ensures

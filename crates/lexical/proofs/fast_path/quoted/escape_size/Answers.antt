use Rattle.std.proofs.Common.{inl, inr}
use Rattle.lexical.proofs.FastEscapeLemmas.{some_other}
use Rattle.lexical.proofs.FastPathLemmas.{at_other}
use Rattle.lexical.proofs.fast_path.quoted.escape_size.Goals as goal

pub returns-in-Some-hex_size : goal.returns-in-Some-hex_size
returns-in-Some-hex_size c =
    at_other _ _ c.args.bytes.now _ (λ p r h rest. inr (inl (h rest))) c.in-Some-hex_size.ensures

pub returns-in-None : goal.returns-in-None
returns-in-None c = some_other _ _ c.args.bytes.now _ (λ p r h rest. inr (inr (h rest))) c.unicode_size.ensures

use Rattle.std.proofs.lemmas.Str.{IsUtf8-had}
use Rattle.pm_token.proofs.symbols.short.Short.as_bytes.Goals as goal

pub returns-clause-utf8 : goal.returns-clause-utf8
returns-clause-utf8 c = IsUtf8-had _ c.self.invariant.1

use Rattle.std.proofs.Common.{refl}
use Rattle.std.proofs.lemmas.Str.{chars-nil}
use Rattle.rust_check.proofs.ends.odd.Goals as goal

pub returns : goal.returns
returns c = rw chars-nil refl

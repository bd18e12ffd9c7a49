use Rattle.std.proofs.Common.{◌++◌, ap, subst, sym}
use Rattle.std.specs.Str.{chars}
use Rattle.std.proofs.lemmas.Str.{IsUtf8-append, scalars-chars}
use Rattle.pm_token.specs.Text.{IsText}
use Rattle.pm_token.proofs.symbols.Symbol.concatenation.Goals as goal

pub returns-clause-text : goal.returns-clause-text
returns-clause-text c =
    subst (λ bytes. IsText (chars bytes)) (sym c.concatenation.ensures)
    (scalars-chars (c.args.front.now ++ c.args.back.now)
    (IsUtf8-append c.args.front.now c.args.back.now c.utf8.front c.utf8.back))

pub returns-then-front-gt-ROOM-clause-value : goal.returns-then-front-gt-ROOM-clause-value
returns-then-front-gt-ROOM-clause-value c = tt

pub returns-then-front-gt-ROOM-clause-text : goal.returns-then-front-gt-ROOM-clause-text
returns-then-front-gt-ROOM-clause-text c = tt

pub returns-clause-value : goal.returns-clause-value
returns-clause-value c = ap chars c.concatenation.ensures

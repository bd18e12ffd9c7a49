use Rattle.std.proofs.Common.{arith}
use Rattle.quoting.proofs.TurnLemmas.{no_separator, nothing_between}
use Rattle.quoting.proofs.fill.separate.Goals as goal

pub returns-in_default : goal.returns-in_default
returns-in_default c = nothing_between _ _ c.args.turn (omega (arith, c.if-turn-gt0.false))

pub returns-in_default-2 : goal.returns-in_default-2
returns-in_default-2 c = no_separator _ _ _ c.in_default.is

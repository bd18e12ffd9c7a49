use Rattle.std.proofs.Common.{sym}
use Rattle.layout.proofs.GapLemmas.{gap_bars}
use Rattle.layout.proofs.gaps.frees_dot.Goals as goal

pub returns-in_default : goal.returns-in_default
returns-in_default c = sym (gap_bars c.args.gap _ c.in_default.not-Nothing)

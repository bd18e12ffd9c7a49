use Rattle.std.proofs.Common.{refl}
use Rattle.literal_escaper.proofs.ErrorLemmas.{errors_here, errors_none, errors_past}
use Rattle.literal_escaper.proofs.check.next_error.Goals as goal

pub returns-in-Err : goal.returns-in-Err
returns-in-Err g c = errors_here _ _ _ _ _ _ c.loop-range.invariant c.in-Some.ensures c.in-Err.is

pub loop-range-preserved : goal.loop-range-preserved
loop-range-preserved g c = errors_past _ _ _ _ _ c.loop-range.invariant c.in-Some.ensures c.in_default-unit.not-Err

pub returns : goal.returns
returns g c = (
  errors_none _ _ c.loop-range.invariant c.in_default.ensures.0,
  errors_none _ _ refl c.in_default.ensures.1,
)

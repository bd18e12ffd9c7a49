use Rattle.pm_token.proofs.PlainNameLemmas.{continues_at}
use Rattle.pm_token.proofs.identifiers.faults.continues_plain.Goals as goal

pub returns : goal.returns
returns c = continues_at c.args.byte c.ranges.byte.fits

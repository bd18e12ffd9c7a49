use Rattle.lexical.proofs.ClassLemmas.{byte_start_is}
use Rattle.lexical.proofs.class.byte_start.Goals as goal

pub returns : goal.returns
returns c = byte_start_is c.args.byte c.ranges.byte.fits

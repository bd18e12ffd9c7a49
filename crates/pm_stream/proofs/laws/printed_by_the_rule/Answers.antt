use Rattle.pm_stream.proofs.RuleLemmas.{printed-ruled}
use Rattle.pm_stream.proofs.laws.printed_by_the_rule.Goals as goal

pub returns : goal.returns
returns c = printed-ruled

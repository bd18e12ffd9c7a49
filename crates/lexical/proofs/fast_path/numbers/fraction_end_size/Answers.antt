use Rattle.lexical.proofs.FastExponentLemmas.{some_exponent}
use Rattle.lexical.proofs.FastNumberLemmas.{end_at}
use Rattle.lexical.proofs.fast_path.numbers.fraction_end_size.Goals as goal

pub returns-in-Some-clause-end : goal.returns-in-Some-clause-end
returns-in-Some-clause-end c = end_at c.args.bytes.now _ c.in-Some.ensures.end

pub returns-in-None-clause-end : goal.returns-in-None-clause-end
returns-in-None-clause-end c = some_exponent c.args.bytes.now _ c.exponent_end_size.ensures.end

use Rattle.std.proofs.lemmas.List.{take_rest}
use Rattle.lexical.proofs.FastExponentLemmas.{exponent_end_at}
use Rattle.lexical.proofs.fast_path.numbers.exponent_end_size.Goals as goal

pub returns-clause-end : goal.returns-clause-end
returns-clause-end c =
    exponent_end_at c.args.bytes.now _ _ _ c.in_ok-exponent.ensures.exponent
    (take_rest c.args.bytes.now c.in_ok-exponent.exponent) c.in_ok-suffix.ensures.end

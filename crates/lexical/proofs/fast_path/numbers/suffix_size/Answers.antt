use Rattle.lexical.proofs.FastNumberLemmas.{name_end, plain_end}
use Rattle.lexical.proofs.fast_path.numbers.suffix_size.Goals as goal

pub returns-then-ends_digits-clause-end : goal.returns-then-ends_digits-clause-end
returns-then-ends_digits-clause-end c =
    plain_end c.args.bytes.now c.byte_at-first.result c.byte_at-first.ensures c.if-ends_digits.ensures

pub returns-then-is_ascii-clause-end : goal.returns-then-is_ascii-clause-end
returns-then-is_ascii-clause-end c =
    name_end c.args.bytes.now c.byte_at-first.result c.count_ascii-size.result c.byte_at.result
    c.byte_at-first.ensures c.byte_at.ensures c.if-holds_ascii.ensures c.if-not-holds_ascii.ensures
    c.count_ascii-size.ensures c.if-is_ascii.ensures

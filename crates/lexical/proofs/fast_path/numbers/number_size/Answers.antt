use Rattle.lexical.proofs.FastPathLemmas.{number_read}
use Rattle.lexical.proofs.fast_path.numbers.number_size.Goals as goal

pub returns-then-ends_number : goal.returns-then-ends_number
returns-then-ends_number c = number_read _ _ c.as_bytes-bytes.ensures.value _ _ _ c.byte_at.ensures c.byte_at-2.ensures
    c.if-not-holds_ascii.ensures c.count_ascii-size.ensures c.if-ends_number.ensures

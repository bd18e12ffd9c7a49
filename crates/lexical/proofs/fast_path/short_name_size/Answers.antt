use Rattle.lexical.proofs.FastPathLemmas.{name_read}
use Rattle.lexical.proofs.fast_path.short_name_size.Goals as goal

pub returns-then-ends_name : goal.returns-then-ends_name
returns-then-ends_name c = name_read _ _ c.as_bytes-bytes.ensures.value _ _ _ c.byte_at.ensures c.byte_at-2.ensures
    c.if-not-holds_ascii.ensures c.count_ascii-size.ensures c.if-ends_name.ensures

use Rattle.std.proofs.Common.{arith}
use Rattle.lexical.proofs.FastCommentLemmas.{line_read}
use Rattle.lexical.proofs.fast_path.line_size.Goals as goal

pub returns-then-size-bytes : goal.returns-then-size-bytes
returns-then-size-bytes c =
    line_read c.args.text.now c.as_bytes-bytes.result.now _ c.as_bytes-bytes.ensures.value
    c.count_line-size.ensures.within c.count_line-size.ensures.plain
    (λ some. absurd (omega (arith, some, c.if-size-bytes.true)))

pub returns-then-bytes-size-eq10 : goal.returns-then-bytes-size-eq10
returns-then-bytes-size-eq10 c =
    line_read c.args.text.now c.as_bytes-bytes.result.now _ c.as_bytes-bytes.ensures.value
    c.count_line-size.ensures.within c.count_line-size.ensures.plain
    (λ some. c.if-bytes-size-eq10.true)

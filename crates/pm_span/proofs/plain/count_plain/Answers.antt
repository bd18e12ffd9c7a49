use Rattle.std.proofs.Common.{arith}
use Rattle.std.proofs.lemmas.List.Sums.{prefix_len-le-length}
use Rattle.pm_span.specs.Plain.{is_plain}
use Rattle.pm_span.proofs.plain.count_plain.Goals as goal

pub overflow_add-result-2 : goal.overflow_add-result-2
overflow_add-result-2 c =
    omega (
      arith,
      prefix_len-le-length is_plain c.loop-word.rest.now,
      c.count_by_bytes.ensures,
      c.loop-word.invariant.size,
    )

use Rattle.std.proofs.Common.{subst, arith}
use Rattle.std.specs.Str.{chars}
use Rattle.pm_span.specs.ByteIndex.{AreBlockEnds}
use Rattle.pm_span.proofs.byte_index.ByteIndex.new.Goals as goal

pub invariant_of-result : goal.invariant_of-result
invariant_of-result c = record {
  size = c.requires;
  fits = omega (arith, c.ranges.count.fits);
  blocks = subst (λ text. AreBlockEnds (chars text) c.in_ok-ends.ends.items) c.as_str.ensures.value
      c.in_ok-ends.ensures;
}

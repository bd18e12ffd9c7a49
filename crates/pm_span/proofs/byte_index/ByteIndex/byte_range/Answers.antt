use Rattle.std.proofs.Common.{arith, refl}
use Rattle.pm_span.proofs.byte_index.ByteIndex.byte_range.Goals as goal

pub byte_offset-from-requires-clause-known : goal.byte_offset-from-requires-clause-known
byte_offset-from-requires-clause-known c = record { within = omega arith; value = refl }

pub byte_offset-requires-clause-known : goal.byte_offset-requires-clause-known
byte_offset-requires-clause-known c = record {
  within = omega (arith, c.requires.ordered, c.requires.within);
  value = c.byte_offset-from.ensures;
}

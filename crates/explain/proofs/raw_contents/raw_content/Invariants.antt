use Rattle.std.proofs.Common.{length}
use Rattle.std.specs.Str.{chars}
use Rattle.explain.proofs.RawLemmas.{RawLeft, ReadRaw}
use Rattle.explain.proofs.raw_contents.raw_content.Given as goal

abbrev pub invariant-loop-after : goal.invariant-loop-after
invariant-loop-after l = record {
  read : ReadRaw l.kind l.hashes l.body l.place;
  rest : RawLeft l.kind l.hashes l.place l.end;
}

abbrev pub decreases-loop-after : goal.decreases-loop-after
decreases-loop-after l = length (chars l.place.rest.now)

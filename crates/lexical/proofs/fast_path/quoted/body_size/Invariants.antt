use Rattle.std.proofs.Common.{◌-◌, ◌<◌, length, take}
use Rattle.lexical.proofs.FastStringLemmas.{Front}
use Rattle.lexical.proofs.fast_path.quoted.body_size.Given as goal

abbrev pub invariant-loop-size : goal.invariant-loop-size
invariant-loop-size l = record { within : l.size < length l.bytes; front : Front l.kind (take l.size l.bytes) }

abbrev pub decreases-loop-size : goal.decreases-loop-size
decreases-loop-size l = length l.bytes - l.size

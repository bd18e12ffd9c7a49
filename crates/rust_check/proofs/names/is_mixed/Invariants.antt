use Rattle.std.specs.Str.Iter.{chars_rest}
use Rattle.rust_check.proofs.NamesLemmas.{IsWritten}
use Rattle.rust_check.proofs.names.is_mixed.Given as goal

abbrev pub invariant-loop-c : goal.invariant-loop-c
invariant-loop-c l = IsWritten l.name (chars_rest l.c-iterator) l.writing

use Rattle.std.proofs.Common.{string_bytes}
use Rattle.std.specs.Str.Iter.{chars_rest}
use Rattle.outline.proofs.LineLemmas.{IsInLine}
use Rattle.outline.proofs.names.one_line.Given as goal

abbrev pub invariant-loop-c : goal.invariant-loop-c
invariant-loop-c l = IsInLine l.text (chars_rest l.c-iterator) l.gap (string_bytes l.out)

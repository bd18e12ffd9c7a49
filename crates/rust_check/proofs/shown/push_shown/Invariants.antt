use Rattle.std.proofs.Common.{string_bytes}
use Rattle.std.specs.Str.Iter.{chars_rest}
use Rattle.rust_check.specs.Shown.{visible_char}
use Rattle.messages.proofs.EachLemmas.{IsEach}
use Rattle.rust_check.proofs.shown.push_shown.Given as goal

abbrev pub invariant-loop-c : goal.invariant-loop-c
invariant-loop-c l = IsEach visible_char l.text (chars_rest l.c-iterator) (string_bytes l.initial.out)
    (string_bytes l.out)

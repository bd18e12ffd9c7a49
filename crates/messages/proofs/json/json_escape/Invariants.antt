use Rattle.std.proofs.Common.{string_bytes}
use Rattle.std.specs.Str.Iter.{chars_rest}
use Rattle.messages.specs.Json.{escape}
use Rattle.messages.proofs.EachLemmas.{IsEach}
use Rattle.messages.proofs.json.json_escape.Given as goal

abbrev pub invariant-loop-c : goal.invariant-loop-c
invariant-loop-c l = IsEach escape l.text (chars_rest l.c-iterator) (string_bytes l.initial.out) (string_bytes l.out)

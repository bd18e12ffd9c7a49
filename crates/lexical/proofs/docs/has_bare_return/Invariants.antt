use Rattle.std.proofs.Common.{length}
use Rattle.std.specs.Str.{chars}
use denote.Shadow.{shadow}
use denote.Text.{Utf8}
use Rattle.lexical.proofs.ReturnLemmas.{AtReturn}
use Rattle.lexical.proofs.docs.has_bare_return.Given as goal

abbrev pub invariant-loop-after : goal.invariant-loop-after
invariant-loop-after l = shadow (Utf8 l.rest) × AtReturn (chars l.text) (chars l.rest)

abbrev pub decreases-loop-after : goal.decreases-loop-after
decreases-loop-after l = length (chars l.rest)

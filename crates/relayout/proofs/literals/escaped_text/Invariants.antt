use Rattle.std.proofs.Common.{◌++◌, codes, length}
use denote.Text.{Utf8}
use denote.Shadow.{shadow}
use Rattle.std.specs.Str.{chars}
use Rattle.relayout.proofs.LiteralLemmas.{Reads}
use Rattle.relayout.proofs.literals.escaped_text.Given as goal

abbrev pub invariant-loop-rest : goal.invariant-loop-rest
invariant-loop-rest l = shadow (Utf8 l.rest)
    × Reads (codes "\"" ++ (chars l.fn.front ++ chars l.fn.after)) l.doc_body (chars l.rest)

abbrev pub decreases-loop-rest : goal.decreases-loop-rest
decreases-loop-rest l = length (chars l.rest)

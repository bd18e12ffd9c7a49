use Rattle.std.specs.Str.{chars}
use Rattle.rust_check.specs.Report.{balanced_after, found_at_character}
use Rattle.rust_check.specs.Turns.{is_balanced}
use Rattle.rust_check.proofs.ReportLemmas.{IsAlong}
use Rattle.rust_check.proofs.report.tell_piece.Given as goal

abbrev pub invariant-loop-c : goal.invariant-loop-c
invariant-loop-c g l =
    let bytes = g.W.Write.contents in
    IsAlong (λ balanced at c rest. found_at_character l.fn.literal balanced at c) balanced_after l.fn.form l.fn.path
    l.fn.text l.rest.rest.now (is_balanced (chars l.fn.text)) l.balanced l.fn.place l.at (bytes l.initial.writer)
    (bytes l.writer) l.initial.found l.found

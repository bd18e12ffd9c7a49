use Rattle.std.proofs.Common.{false}
use Rattle.rust_check.specs.LineEnds.{ends_after, found_at_end}
use Rattle.rust_check.specs.TextPosition.{front}
use Rattle.rust_check.specs.declared.ends.Style.TheVariants.{Unknown}
use Rattle.rust_check.proofs.ReportLemmas.{IsAlong}
use Rattle.rust_check.proofs.ends.tell_line_ends.Given as goal

abbrev pub invariant-loop-c : goal.invariant-loop-c
invariant-loop-c g l =
    let bytes = g.W.Write.contents in
    IsAlong found_at_end (λ ends c rest. ends_after ends c) l.fn.form l.fn.path l.fn.text l.rest.rest.now
    (record { style = Unknown; after_return = false }) l.ends front l.place (bytes l.initial.writer) (bytes l.writer)
    l.initial.found l.found

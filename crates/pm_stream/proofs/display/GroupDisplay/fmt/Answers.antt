use Rattle.std.proofs.Common.{refl, true, ◌∙◌}
use Rattle.pm_stream.proofs.PrintLemmas.{group_written}
use Rattle.pm_stream.proofs.display.GroupDisplay.fmt.Goals as goal

pub returns-clause-writes : goal.returns-clause-writes
returns-clause-writes g c = λ plain ok.
    let opened = c.in_ok-print_opening.ensures plain (refl {a = true}) in
    let inside = c.in_ok-print_trees.ensures opened.plain (refl {a = true}) in
    let ended = c.print_ending.ensures inside.plain ok in
    group_written _ _ _ _ _ c.args.self.now _ _ _ c.delimiter-delimiter.ensures c.is_brace.ensures
    (c.trees.ensures.value ∙ c.stream_ref-stream.ensures.value) opened inside ended

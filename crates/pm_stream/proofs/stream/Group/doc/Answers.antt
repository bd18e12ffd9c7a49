use Rattle.std.proofs.Common.{rules, ◌∙◌}
use Rattle.pm_stream.proofs.DocLemmas.{trees_of-forest}
use Rattle.pm_stream.proofs.stream.Group.doc.Goals as goal

pub returns-clause-value : goal.returns-clause-value
returns-clause-value c =
    let held = c.trees.ensures.value ∙ c.stream_ref.ensures.value in
    rw (← held, trees_of-forest c.trees.result.now) (search rules)

use Rattle.std.proofs.Common.{◌∙◌}
use Rattle.outline.proofs.OnlyLemmas.{inside_never}
use Rattle.outline.proofs.entries.items_in.Goals as goal

pub returns-in-Some-clause-none : goal.returns-in-Some-clause-none
returns-in-Some-clause-none c =
    inside_never c.items_of.result _ c.in-Some.group.now _ c.in-Some.ensures
    (c.trees.ensures.value ∙ c.stream_ref.ensures.value) c.items_of.ensures.none

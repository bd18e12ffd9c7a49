use Rattle.outline.specs.Levels.{level_left}
use Rattle.outline.proofs.LevelLemmas.{found_weaker, group_comes, inside_none, inside_trees, none_weaker}
use Rattle.outline.proofs.levels.inside_of.Goals as goal

pub returns-clause-ok : goal.returns-clause-ok
returns-clause-ok c =
    found_weaker c.level_of.result _ _ (λ level reads.
    inside_trees c.in-Some.field-0-0 c.args.body c.in-Some.inside c.in-Some.field-0-2 (level_left level)
    c.in-Some.ensures reads) c.level_of.ensures.ok

pub returns-clause-none : goal.returns-clause-none
returns-clause-none c =
    none_weaker c.level_of.result _ _ (λ stop never.
    inside_none c.in-Some.field-0-0 c.args.body c.in-Some.inside c.in-Some.field-0-2 c.in-Some.ensures never)
    c.level_of.ensures.none

pub unreachable-requires : goal.unreachable-requires
unreachable-requires c = group_comes c.args.body c.requires c.in-None.ensures

use Rattle.outline.specs.Levels.{level_left, trees_left}
use Rattle.outline.proofs.LevelLemmas.{even_more, past_last}
use Rattle.outline.proofs.levels.advance.Goals as goal

pub invariant_of-result : goal.invariant_of-result
invariant_of-result c = record {
  even = even_more c.args.level.trees.items (level_left c.args.level) (trees_left c.past-rest.result)
      c.args.level.at c.args.count c.args.level.even
      (past_last (level_left c.args.level) (trees_left c.args.last) (trees_left c.past-rest.result) c.args.count
      c.requires.some c.requires.last c.past-rest.ensures);
}

pub returns : goal.returns
returns c =
    past_last (level_left c.args.level) (trees_left c.args.last) (trees_left c.past-rest.result) c.args.count
    c.requires.some c.requires.last c.past-rest.ensures

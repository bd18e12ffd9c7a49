use Rattle.std.proofs.Common.{◌∙◌, length, refl}
use Rattle.token_buffer.specs.Reads.{left}
use Rattle.outline.specs.Levels.{trees_left}
use Rattle.outline.proofs.LevelLemmas.{even_start, outer_are, start_never, start_reads}
use Rattle.outline.proofs.levels.level_of.Goals as goal

pub returns-in-Err-clause-none : goal.returns-in-Err-clause-none
returns-in-Err-clause-none c =
    start_never c.as_slice.result.now (trees_left c.args.whole)
    (c.as_slice.ensures.value ∙ outer_are c.in_ok-trees.trees.items (left c.args.whole) c.in_ok-trees.ensures)
    c.in-Err.ensures.fault.nothing

pub invariant_of-result : goal.invariant_of-result
invariant_of-result c = record {
  even = even_start c.in_ok-trees.trees.items (trees_left c.args.whole) (trees_left c.past-rest.result)
      (length c.in-Ok.inner.now)
      (outer_are c.in_ok-trees.trees.items (left c.args.whole) c.in_ok-trees.ensures) c.past-rest.ensures;
}

pub returns-clause-ok : goal.returns-clause-ok
returns-clause-ok c =
    start_reads c.as_slice.result.now (trees_left c.args.whole) c.in-Ok.inner.now c.in-Ok.field-0-1.now
    (trees_left c.past-rest.result) (length c.in-Ok.inner.now)
    (c.as_slice.ensures.value ∙ outer_are c.in_ok-trees.trees.items (left c.args.whole) c.in_ok-trees.ensures)
    c.in-Ok.ensures.ok refl c.past-rest.ensures

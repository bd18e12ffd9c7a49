use Rattle.item_headers.proofs.HeaderLemmas.{joined_three}
use Rattle.item_headers.specs.Lists.{mark, pushed_trees}
use Rattle.item_headers.proofs.clauses.push_predicate.Goals as goal

pub returns : goal.returns
returns c =
    let predicate = c.args.predicate.now in
    joined_three c.args.quote.now (pushed_trees predicate.bounded.now) (mark 58) (pushed_trees predicate.bounds.now) _ _
    _
    c.in_ok-push_trees.ensures c.in_ok-push_mark.ensures c.in_ok-push_trees-2.ensures
